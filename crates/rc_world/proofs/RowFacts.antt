-- Rows in the order of their keys.
use Rattle.std.proofs.Common.{◌≡◌, ℕ, zero, suc, ◌+◌, Bool, true, false, nat_lt, List, [], ◌∷◌, ◌++◌, drop, Option, None, Some, refl, sym, ap, subst, ◌∙◌, append_assoc, add-one}
use Rattle.std.specs.Prelude.{slice_get, if◌then◌else◌}
use Rattle.std.specs.declared.cmp.Ordering.{Ordering}
use Rattle.std.specs.declared.cmp.Ordering.TheVariants.{Less, Equal, Greater}
use Rattle.std.specs.Ordering.{nat_cmp, ordering_reverse, match_ordering}
use Rattle.std.specs.List.{AllByRecursion}
use Rattle.std.specs.List.Sorted.{IsStrictlySortedBy}
use Rattle.std.proofs.lemmas.Cmp.{nat_list_cmp_total}
use Rattle.rc_ids.specs.Tables.{added, put, found, maybe}
use Rattle.rc_ids.specs.Texts.{key_cmp}
use Rattle.rc_ids.specs.declared.names.Outcome.{Outcome}
use Rattle.rc_body.specs.declared.decision.Decision.{Decision}
use Rattle.rc_body.specs.declared.decision.Decision.TheVariants.{Commit, Abort}
use Rattle.rc_body.specs.declared.entry.Entry.{Entry}
use Rattle.rc_record.specs.Rows.{version_at, set_row, set_rows}
use Rattle.rc_record.specs.ShardState.{settled, settled_new, settled_all, shard_applied, new_durable}
use Rattle.rc_record.specs.declared.shard.ShardDurable.{ShardDurable}
use Rattle.rc_record.specs.declared.record.Record.{Record}
use Rattle.rc_record.specs.declared.record.Record.TheVariants.{Head, Prepared, Finished, Promised, Accepted, Decided}
use Rattle.rc_protocol.specs.Nodes.{shard_replayed}
use Rattle.rc_world.specs.Shown.{RowsRise, keys_in}

abbrev pub Row : Type 0
Row = List ℕ × (ℕ × List ℕ)

-- this key is below those of the rows
abbrev IsBelow : List ℕ → List Row → Type 0
IsBelow k rows = AllByRecursion (λ y. key_cmp k y ≡ Less) (keys_in rows)

-- IN ORDER after a put
less_trans : (a b c : List ℕ) → key_cmp a b ≡ Less → key_cmp b c ≡ Less → key_cmp a c ≡ Less
less_trans a b c first second = nat_list_cmp_total.trans a b c first second

below_all : (k l : List ℕ) (rows : List Row) → key_cmp k l ≡ Less → IsBelow l rows → IsBelow k rows
below_all k l [] less below = tt
below_all k l (r ∷ rs) less below = (less_trans k l r.0 less below.0, below_all k l rs less below.1)

below_at : (h k : List ℕ) (x : ℕ × List ℕ) (r : Row) (rs : List Row) (o : Ordering) → key_cmp h k ≡ Less → IsBelow h (r ∷ rs) → IsBelow h (put key_cmp rs k x)
    → IsBelow h (match_ordering o ((k, x) ∷ r ∷ rs) ((r.0, x) ∷ rs) (r ∷ put key_cmp rs k x))
below_at h k x r rs Less less below later = (less, below)
below_at h k x r rs Equal less below later = below
below_at h k x r rs Greater less below later = (below.0, later)

below_put : (h k : List ℕ) (x : ℕ × List ℕ) (rows : List Row) → key_cmp h k ≡ Less → IsBelow h rows → IsBelow h (put key_cmp rows k x)
below_put h k x [] less below = (less, tt)
below_put h k x (r ∷ rs) less below = below_at h k x r rs (key_cmp k r.0) less below (below_put h k x rs less below.1)

less_back : (a b : List ℕ) → key_cmp a b ≡ Greater → key_cmp b a ≡ Less
less_back a b h = nat_list_cmp_total.antisymm b a ∙ ap ordering_reverse h

rise_at : (k : List ℕ) (x : ℕ × List ℕ) (r : Row) (rs : List Row) (o : Ordering) → key_cmp k r.0 ≡ o → RowsRise (r ∷ rs) → RowsRise (put key_cmp rs k x)
    → RowsRise (match_ordering o ((k, x) ∷ r ∷ rs) ((r.0, x) ∷ rs) (r ∷ put key_cmp rs k x))
unfolding IsStrictlySortedBy
rise_at k x r rs Less is rise later = ((is, below_all k r.0 rs is rise.0), rise)
rise_at k x r rs Equal is rise later = rise
rise_at k x r rs Greater is rise later = (below_put r.0 k x rs (less_back k r.0 is) rise.0, later)

pub rise_put : (k : List ℕ) (x : ℕ × List ℕ) (rows : List Row) → RowsRise rows → RowsRise (put key_cmp rows k x)
unfolding IsStrictlySortedBy
rise_put k x [] rise = (tt, tt)
rise_put k x (r ∷ rs) rise = rise_at k x r rs (key_cmp k r.0) refl rise (rise_put k x rs rise.1)

-- WHAT A LOG MAKES
rise_if : (b : Bool) (k : List ℕ) (x : ℕ × List ℕ) (rows : List Row) → RowsRise rows → RowsRise (if b then put key_cmp rows k x else rows)
rise_if true k x rows rise = rise_put k x rows rise
rise_if false k x rows rise = rise

rise_write : (k : List ℕ) (v : ℕ) (write : Option (List ℕ)) (rows : List Row) → RowsRise rows → RowsRise (set_row rows (record { key = k; version = v; write = write }))
rise_write k v None rows rise = rise
rise_write k v (Some x) rows rise = rise_if (nat_lt (version_at rows k) (v + 1)) k (v + 1, x) rows rise

rise_part : (es : List Entry) (rows : List Row) → RowsRise rows → RowsRise (set_rows rows es)
rise_part [] rows rise = rise
rise_part (e ∷ es) rows rise = rise_part es (set_row rows e) (rise_write e.key e.version e.write rows rise)

rise_settled : (s : ShardDurable) (t : ℕ) (d : Decision) → RowsRise s.rows → RowsRise (settled s t d).rows
rise_settled s t Abort rise = rise
rise_settled s t (Commit part) rise = rise_part part s.rows rise

rise_new : (s : ShardDurable) (t : ℕ) (d : Decision) (o : Option Outcome) → RowsRise s.rows → RowsRise (maybe o (settled s t d) (λ _. s)).rows
rise_new s t d None rise = rise_settled s t d rise
rise_new s t d (Some outcome) rise = rise

rise_page : (page : List (ℕ × Decision)) (s : ShardDurable) → RowsRise s.rows → RowsRise (settled_all s page).rows
rise_page [] s rise = rise
rise_page (e ∷ es) s rise = rise_page es (settled_new s e) (rise_new s e.0 e.1 (found nat_cmp s.finished e.0) rise)

rise_record : (s : ShardDurable) (r : Record) → RowsRise s.rows → RowsRise (shard_applied s r).rows
rise_record s (Head h) rise = rise
rise_record s (Prepared t part) rise = rise
rise_record s (Finished page) rise = rise_page page s rise
rise_record s (Promised t b) rise = rise
rise_record s (Accepted t b o) rise = rise
rise_record s (Decided page) rise = rise

rise_log : (log : List Record) (s : ShardDurable) → RowsRise s.rows → RowsRise (shard_replayed s log).rows
rise_log [] s rise = rise
rise_log (r ∷ rs) s rise = rise_log rs (shard_applied s r) (rise_record s r rise)

none_rise : RowsRise []
unfolding IsStrictlySortedBy
none_rise = tt

-- the rows that a log makes are in the order of their keys
pub replay_rises : (log : List Record) (s : ShardDurable) → s ≡ shard_replayed new_durable log → RowsRise s.rows
replay_rises log s is = subst (λ (x : ShardDurable). RowsRise x.rows) (sym is) (rise_log log new_durable none_rise)

-- ONE MORE at the end
above_back : (a b : List ℕ) → key_cmp a b ≡ Less → key_cmp b a ≡ Greater
above_back a b h = nat_list_cmp_total.antisymm b a ∙ ap ordering_reverse h

among : (h : List ℕ) (acc rest : List Row) (r : Row) → IsBelow h (acc ++ r ∷ rest) → key_cmp h r.0 ≡ Less
among h [] rest r all = all.0
among h (a ∷ acc) rest r all = among h acc rest r all.1

put_last : (acc rest : List Row) (r : Row) → RowsRise (acc ++ r ∷ rest) → put key_cmp acc r.0 r.1 ≡ acc ++ r ∷ []
unfolding IsStrictlySortedBy
put_last [] rest r rise = refl
put_last (a ∷ acc) rest r rise =
    ap (λ (o : Ordering). match_ordering o (r ∷ a ∷ acc) ((a.0, r.1) ∷ acc) (a ∷ put key_cmp acc r.0 r.1)) (above_back a.0 r.0 (among a.0 acc rest r rise.0))
    ∙ ap (λ (zs : List Row). a ∷ zs) (put_last acc rest r rise.1)

-- one row more of those in order
pub rows_more : (rows done now left rest : List Row) (row : Row) → done ++ left ≡ rows → left ≡ row ∷ rest → now ≡ put key_cmp done row.0 row.1 → RowsRise rows → now ++ rest ≡ rows
rows_more rows done now left rest row all next is rise =
    let split : done ++ row ∷ rest ≡ rows = ap (λ (rs : List Row). done ++ rs) (sym next) ∙ all in
    ap (λ (rs : List Row). rs ++ rest) (is ∙ put_last done rest row (subst RowsRise (sym split) rise)) ∙ append_assoc done (row ∷ []) rest ∙ split

added_last : (ks : List (List ℕ)) (k : List ℕ) (rest : List (List ℕ)) → IsStrictlySortedBy key_cmp (ks ++ k ∷ rest) → added key_cmp ks k ≡ ks ++ k ∷ []
unfolding IsStrictlySortedBy
added_last [] k rest sorted = refl
added_last (l ∷ ls) k rest sorted =
    ap (λ o. match_ordering o (k ∷ l ∷ ls) (l ∷ ls) (l ∷ added key_cmp ls k)) (above_back l k (below_of ls sorted.0)) ∙ ap (λ ms. l ∷ ms) (added_last ls k rest sorted.1)
  where
    below_of : (xs : List (List ℕ)) → AllByRecursion (λ y. key_cmp l y ≡ Less) (xs ++ k ∷ rest) → key_cmp l k ≡ Less
    below_of [] h = h.0
    below_of (x ∷ xs) h = below_of xs h.1

-- the key of one row more
pub keys_more : (rows rest left : List Row) (ks new : List (List ℕ)) (row : Row) → RowsRise rows
    → ks ++ keys_in left ≡ keys_in rows → left ≡ row ∷ rest → new ≡ added key_cmp ks row.0 → new ++ keys_in rest ≡ keys_in rows
keys_more rows rest left ks new row sorted all next is =
    let split : ks ++ row.0 ∷ keys_in rest ≡ keys_in rows = ap (λ (rs : List Row). ks ++ keys_in rs) (sym next) ∙ all in
    let rising : IsStrictlySortedBy key_cmp (ks ++ row.0 ∷ keys_in rest) = subst (λ (ls : List (List ℕ)). IsStrictlySortedBy key_cmp ls) (sym split) sorted in
    ap (λ (ls : List (List ℕ)). ls ++ keys_in rest) (is ∙ added_last ks row.0 (keys_in rest) rising) ∙ append_assoc ks (row.0 ∷ []) (keys_in rest) ∙ split

-- WHAT IS LEFT from a place on
rest_next : {X : Type 0} (xs : List X) (i : ℕ) (x : X) → slice_get xs i ≡ Some x → drop i xs ≡ x ∷ drop (suc i) xs
rest_next [] i x at = cc
rest_next (y ∷ ys) zero x at = let e : y ≡ x = cc in ap (λ z. z ∷ ys) e
rest_next (y ∷ ys) (suc i) x at = rest_next ys i x at

pub rest_at : {X : Type 0} (xs : List X) (i : ℕ) (x : X) → slice_get xs i ≡ Some x → drop i xs ≡ x ∷ drop (i + 1) xs
rest_at xs i x at = rw add-one (rest_next xs i x at)
