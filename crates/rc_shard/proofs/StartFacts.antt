-- What a restart makes again: rows in key order, put one after another, are those rows; and parts are those by number.
use Rattle.std.proofs.Common.{◌≡◌, ℕ, ◌<◌, ◌==◌, map, nat_lt, true, false, is_some, cond, if◌then◌else◌, List, [], ◌∷◌, ◌++◌, Option, Some, None, refl, sym, ap, subst, ◌∙◌, arith, append_assoc}
use Rattle.std.proofs.lemmas.List.{append-nil}
use Rattle.std.specs.declared.cmp.Ordering.{Ordering}
use Rattle.std.specs.declared.cmp.Ordering.TheVariants.{Less, Greater}
use Rattle.std.specs.Ordering.{nat_cmp, is_eq, match_ordering, ordering_reverse}
use Rattle.std.proofs.lemmas.Bool.{or_parts}
use Rattle.std.proofs.lemmas.Cmp.{nat_cmp_total, nat_list_cmp_total}
use Rattle.std.specs.List.{AllByRecursion}
use Rattle.std.specs.List.Sorted.{IsStrictlySortedBy}
use Rattle.rc_ids.specs.Tables.{Table, found, put, maybe}
use Rattle.rc_ids.specs.Texts.{key_cmp}
use Rattle.rc_body.specs.declared.entry.Entry.{Entry}
use Rattle.rc_body.specs.Pages.{has_tx, TxsDiffer}
use Rattle.rc_body.specs.Rows.{Row}
use Rattle.rc_record.specs.InOrder.{filed}
use Rattle.rc_record.proofs.ByNumber.{found-put}
use Rattle.rc_locks.specs.LockSets.{put_all}
use Rattle.rc_versions.specs.Rows.{newest, AreAbove, Rises}
use Rattle.rc_shard.specs.Plans.{newest_all}
use Rattle.rc_record.specs.Rows.{AreWritten}

less_back : (a b : List ℕ) → key_cmp a b ≡ Less → key_cmp b a ≡ Greater
less_back a b h = nat_list_cmp_total.antisymm b a ∙ ap ordering_reverse h

-- a row after others is above each of them
among : (h : List ℕ) (acc rest : List Row) (r : Row) → AreAbove h (acc ++ r ∷ rest) → key_cmp h r.0 ≡ Less
among h [] rest r all = all.0
among h (a ∷ acc) rest r all = among h acc rest r all.1

absent : (acc rest : List Row) (r : Row) → Rises (acc ++ r ∷ rest) → found key_cmp acc r.0 ≡ None
absent [] rest r rises = refl
absent (a ∷ acc) rest r rises =
    ap (λ (o : Ordering). cond (is_eq o) (Some a.1) (found key_cmp acc r.0)) (less_back a.0 r.0 (among a.0 acc rest r rises.0)) ∙ absent acc rest r rises.1

put-last : (acc rest : List Row) (r : Row) → Rises (acc ++ r ∷ rest) → put key_cmp acc r.0 r.1 ≡ acc ++ r ∷ []
put-last [] rest r rises = refl
put-last (a ∷ acc) rest r rises =
    ap (λ (o : Ordering). match_ordering o (r ∷ a ∷ acc) ((a.0, r.1) ∷ acc) (a ∷ put key_cmp acc r.0 r.1)) (less_back a.0 r.0 (among a.0 acc rest r rises.0))
    ∙ ap (λ (zs : List Row). a ∷ zs) (put-last acc rest r rises.1)

test_is : (v : ℕ) → 0 < v → nat_lt 0 v ≡ true
test_is v h = grind arith

newest-last : (acc rest : List Row) (r : Row) → Rises (acc ++ r ∷ rest) → 0 < r.1.0 → newest acc r.0 r.1.0 r.1.1 ≡ acc ++ r ∷ []
newest-last acc rest r rises written =
    ap (λ b. if b then put key_cmp acc r.0 r.1 else acc)
    (ap (λ (o : Option (ℕ × List ℕ)). nat_lt (maybe o 0 (λ row. row.0)) r.1.0) (absent acc rest r rises) ∙ test_is r.1.0 written)
    ∙ put-last acc rest r rises

newest-rest : (acc rows : List Row) → Rises (acc ++ rows) → AreWritten rows → newest_all acc rows ≡ acc ++ rows
newest-rest acc [] rises written = sym (append-nil acc)
newest-rest acc (r ∷ rs) rises written =
    let assoc : (acc ++ r ∷ []) ++ rs ≡ acc ++ r ∷ rs = append_assoc acc (r ∷ []) rs in
    ap (λ (zs : List Row). newest_all zs rs) (newest-last acc rs r rises written.0)
    ∙ newest-rest (acc ++ r ∷ []) rs (subst Rises (sym assoc) rises) written.1 ∙ assoc

pub newest-all : (rows : List Row) → Rises rows → AreWritten rows → newest_all [] rows ≡ rows
newest-all rows rises written = newest-rest [] rows rises written

-- keys that rise
pub Rises-keys : (rows : List Row) → IsStrictlySortedBy key_cmp (map (λ (r : Row). r.0) rows) → Rises rows
unfolding IsStrictlySortedBy
Rises-keys [] sorted = tt
Rises-keys (r ∷ rs) sorted = (above rs sorted.0, Rises-keys rs sorted.1)
  where
    above : (xs : List Row) → AllByRecursion (λ y. key_cmp r.0 y ≡ Less) (map (λ (x : Row). x.0) xs) → AreAbove r.0 xs
    above [] all = tt
    above (x ∷ xs) all = (all.0, above xs all.1)

-- PARTS: none of these has one
abbrev AllAbsent : Table ℕ (List Entry) → List (ℕ × List Entry) → Type 0
AllAbsent table [] = Unit {0}
AllAbsent table (e ∷ es) = (found nat_cmp table e.0 ≡ None) × AllAbsent table es

other : (t u : ℕ) → (u == t) ≡ false → is_eq (nat_cmp u t) ≡ false
other t u h = grind arith

parts_absent : (table : Table ℕ (List Entry)) (t : ℕ) (x : List Entry) (es : List (ℕ × List Entry)) → has_tx t es ≡ false → AllAbsent table es → AllAbsent (put nat_cmp table t x) es
parts_absent table t x [] none all = tt
parts_absent table t x (e ∷ es) none all =
    let parts = or_parts (e.0 == t) (has_tx t es) none in (
      found-put nat_cmp nat_cmp_total table t e.0 x ∙ ap (λ b. cond b (Some x) (found nat_cmp table e.0)) (other t e.0 parts.0) ∙ all.0,
      parts_absent table t x es parts.1 all.1,
    )

put_all-from : (table : Table ℕ (List Entry)) (es : List (ℕ × List Entry)) → TxsDiffer es → AllAbsent table es → put_all table es ≡ filed table es
put_all-from table [] apart all = refl
put_all-from table (e ∷ es) apart all =
    ap (λ (o : Option (List Entry)). put_all (if is_some o then table else put nat_cmp table e.0 e.1) es) all.0
    ∙ put_all-from (put nat_cmp table e.0 e.1) es apart.1 (parts_absent table e.0 e.1 es apart.0 all.1)

none_there : (es : List (ℕ × List Entry)) → AllAbsent [] es
none_there [] = tt
none_there (e ∷ es) = (refl, none_there es)

-- the first part of each transaction, where none has two
pub put_all-filed : (es : List (ℕ × List Entry)) → TxsDiffer es → put_all [] es ≡ filed [] es
put_all-filed es apart = put_all-from [] es apart (none_there es)
