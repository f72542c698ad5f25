-- The transactions at a key, one after another, and what each of them loses.
use Rattle.std.proofs.Common.{◌≡◌, ℕ, ◌+◌, ◌≤◌, ◌<◌, ◌-◌, ◌^◌, length, drop, slice_get, Bor, nat_lt, Bool, true, false, not, ◌||◌, ◌&&◌, ◌==◌, List, Option, Some, None, is_some, refl, sym, ap, ◌∙◌, arith}
use Rattle.std.specs.Ordering.{is_eq}
use Rattle.std.specs.Option.{option_map, option_copied, IfSome}
use Rattle.std.specs.Cmp.Lexicographic.{texts_ties}
use Rattle.std.proofs.lemmas.Cmp.{nat_list_cmp_total, eq_by_cmp_equiv}
use Rattle.std.proofs.lemmas.Map.Lookups.{exact_unsigned}
use Rattle.rc_ids.specs.Tables.{Table, found}
use Rattle.rc_ids.specs.Texts.{key_cmp, same_key}
use Rattle.rc_body.specs.declared.entry.Entry.{Entry}
use Rattle.rc_protocol.specs.Shard.{Mark, mark_cmp, is_taken}
use Rattle.rc_locks.specs.declared.flags.Lock.{Lock}
use Rattle.rc_locks.specs.Flags.{has_place, same_mark, IsTurned, taken_away, turned_where, is_other_at, is_before, taken_by}
use Rattle.rc_locks.proofs.Rest.{rest_at, rest_end}
use Rattle.rc_locks.proofs.MarkLists.{from_same}
use Rattle.rc_locks.proofs.FlagFacts.{number_test, same_mark-parts, fused, same_lock, turned_alike, taken_by-is}
use Rattle.rc_locks.proofs.IndexFacts.{key_same}

-- how many may come from here on
abbrev pub left_from : Option ℕ → ℕ
left_from None = 0
left_from (Some t) = 2 ^ 32 - t

absent : (es : Table Mark Lock) (m : Mark) → has_place es m ≡ false → found mark_cmp es m ≡ None
absent es m none = gone (found mark_cmp es m) none
  where
    gone : (o : Option Lock) → is_some o ≡ false → o ≡ None
    gone None e = refl
    gone (Some l) e = absurd cc

on_nothing : (b : Bool) (o : Option Lock) → o ≡ None → o ≡ option_map (turned_where b taken_away) o
on_nothing b o none = none ∙ ap (option_map (turned_where b taken_away)) (sym none)

unturned : (o : Option Lock) → o ≡ option_map (turned_where false taken_away) o
unturned None = refl
unturned (Some l) = refl

-- nothing is taken before the first one
pub none_taken : (es : Table Mark Lock) (k : List ℕ) (taker : ℕ) (next : Option ℕ) → ((t : ℕ) → is_before next t ≡ true → has_place es (k, t) ≡ false)
    → (m : Mark) → found mark_cmp es m ≡ option_map (turned_where (is_other_at k taker m && is_before next m.1) taken_away) (found mark_cmp es m)
none_taken es k taker next none m = at (m.1 == taker) (same_key k m.0) refl (is_before next m.1) refl
  where
    at : (a b : Bool) → same_key k m.0 ≡ b → (c : Bool) → is_before next m.1 ≡ c
        → found mark_cmp es m ≡ option_map (turned_where ((not a && b) && c) taken_away) (found mark_cmp es m)
    at true b same c before = unturned (found mark_cmp es m)
    at false false same c before = unturned (found mark_cmp es m)
    at false true same false before = unturned (found mark_cmp es m)
    at false true same true before =
        on_nothing true (found mark_cmp es m)
        (absent es m (ap (λ (x : List ℕ). has_place es (x, m.1)) (sym (key_same k m.0 same)) ∙ none m.1 before))

or_more : (a b : Bool) → ((a || b) || false) ≡ (a || b)
or_more true b = refl
or_more false true = refl
or_more false false = refl

merged : (b c : Bool) (o : Option Lock) → option_map (turned_where c taken_away) (option_map (turned_where b taken_away) o) ≡ option_map (turned_where (b || c) taken_away) o
merged b c None = refl
merged true true (Some l) = let r : Bool → Lock = λ x. record { plain = false; lost = x } in ap (λ x. Some (r x)) (or_more l.lost l.plain)
merged true false (Some l) = refl
merged false true (Some l) = refl
merged false false (Some l) = refl

joined : (a b c : Bool) → ((a && b) || (a && c)) ≡ (a && (b || c))
joined true b c = refl
joined false b c = refl

reaches : (n tx : ℕ) → (nat_lt n tx || (n == tx)) ≡ true → n ≤ tx
reaches n tx e = grind arith

passes : (n tx : ℕ) → (nat_lt n tx || (n == tx)) ≡ false → tx < n
passes n tx e = grind arith

below_next : (next : Option ℕ) (n tx : ℕ) → IfSome next (λ t. tx < t) → n ≤ tx → is_before next n ≡ true
below_next None n tx above le = refl
below_next (Some t) n tx above le = grind arith

none_through : (f : Lock → Lock) (o : Option Lock) → option_map f o ≡ None → o ≡ None
none_through f None e = refl
none_through f (Some l) e = absurd cc

module _ (init cur new : Table Mark Lock) (k : List ℕ) (taker tx : ℕ) (next : Option ℕ)
    (before : (m : Mark) → found mark_cmp cur m ≡ option_map (turned_where (is_other_at k taker m && is_before (Some tx) m.1) taken_away) (found mark_cmp init m))
    (turned : IsTurned (λ (m : Mark). turned_where (same_mark (k, tx) m && not (tx == taker)) taken_away) cur new)
    (above : IfSome next (λ t. tx < t))
    (none : (t : ℕ) → tx < t → is_before next t ≡ true → has_place new (k, t) ≡ false) where
  here_test : (m : Mark) → (same_mark (k, tx) m && not (tx == taker)) ≡ (is_other_at k taker m && (m.1 == tx))
  here_test m = ap (λ b. b && not (tx == taker)) (same_mark-parts k tx m) ∙ at (m.1 == tx) refl
    where
      arranged : (a s : Bool) → ((true && s) && a) ≡ ((a && s) && true)
      arranged true true = refl
      arranged true false = refl
      arranged false true = refl
      arranged false false = refl

      apart : (a s : Bool) → false ≡ ((a && s) && false)
      apart true true = refl
      apart true false = refl
      apart false s = refl

      at : (b : Bool) → (m.1 == tx) ≡ b → ((b && is_eq (key_cmp m.0 k)) && not (tx == taker)) ≡ ((not (m.1 == taker) && same_key k m.0) && b)
      at true is =
          let same : tx ≡ m.1 = from_same exact_unsigned tx m.1 (sym (number_test tx m.1) ∙ is) in
          let keys : is_eq (key_cmp m.0 k) ≡ same_key k m.0 = (eq_by_cmp_equiv nat_list_cmp_total).symm m.0 k ∙ sym (texts_ties k m.0) in
          ap (λ s. (true && s) && not (tx == taker)) keys
          ∙ ap (λ x. (true && same_key k m.0) && not (x == taker)) same
          ∙ arranged (not (m.1 == taker)) (same_key k m.0)
      at false is = apart (not (m.1 == taker)) (same_key k m.0)

  so_far : (m : Mark) → found mark_cmp new m ≡ option_map (turned_where (is_other_at k taker m && (nat_lt m.1 tx || (m.1 == tx))) taken_away) (found mark_cmp init m)
  so_far m =
      turned m ∙ ap (option_map (turned_where (same_mark (k, tx) m && not (tx == taker)) taken_away)) (before m)
      ∙ ap (λ b. option_map (turned_where b taken_away) (option_map (turned_where (is_other_at k taker m && nat_lt m.1 tx) taken_away) (found mark_cmp init m))) (here_test m)
      ∙ merged (is_other_at k taker m && nat_lt m.1 tx) (is_other_at k taker m && (m.1 == tx)) (found mark_cmp init m)
      ∙ ap (λ b. option_map (turned_where b taken_away) (found mark_cmp init m)) (joined (is_other_at k taker m) (nat_lt m.1 tx) (m.1 == tx))

  pub taken_on : (m : Mark) → found mark_cmp new m ≡ option_map (turned_where (is_other_at k taker m && is_before next m.1) taken_away) (found mark_cmp init m)
  taken_on m = at (m.1 == taker) (same_key k m.0) refl (nat_lt m.1 tx || (m.1 == tx)) refl (is_before next m.1) refl (so_far m)
    where
      never : (b : Bool) → b ≡ true → b ≡ false → ⊥
      never b p q = cc

      at : (a s : Bool) → same_key k m.0 ≡ s → (r : Bool) → (nat_lt m.1 tx || (m.1 == tx)) ≡ r → (d : Bool) → is_before next m.1 ≡ d
          → found mark_cmp new m ≡ option_map (turned_where ((not a && s) && r) taken_away) (found mark_cmp init m)
          → found mark_cmp new m ≡ option_map (turned_where ((not a && s) && d) taken_away) (found mark_cmp init m)
      at true s same r reached d ahead is = is
      at false false same r reached d ahead is = is
      at false true same true reached true ahead is = is
      at false true same true reached false ahead is =
          absurd (never (is_before next m.1) (below_next next m.1 tx above (reaches m.1 tx reached)) ahead)
      at false true same false reached true ahead is =
          let gone = absent new m (ap (λ (x : List ℕ). has_place new (x, m.1)) (sym (key_same k m.0 same)) ∙ none m.1 (passes m.1 tx reached) ahead) in
          let first = none_through (turned_where false taken_away) (found mark_cmp init m) (sym is ∙ gone) in
          gone ∙ sym (ap (option_map (turned_where true taken_away)) first)
      at false true same false reached false ahead is = is

-- ONE MORE ENTRY OF THE PART
pub part_on : (t : ℕ) (m : Mark) (es : List Entry) (i : ℕ) (e : Entry) (cur new init : Option Lock) (written : Bool)
    → slice_get es i ≡ Some e → is_some e.write ≡ written
    → new ≡ option_map (turned_where (written && is_other_at e.key t m) taken_away) cur
    → option_map (taken_by t m (drop i es)) cur ≡ option_map (taken_by t m es) init
    → option_map (taken_by t m (drop (i + 1) es)) new ≡ option_map (taken_by t m es) init
part_on t m es i e cur new init written at write is before =
    ap (option_map (taken_by t m (drop (i + 1) es))) (is ∙ ap (λ b. option_map (turned_where (b && is_other_at e.key t m) taken_away) cur) (sym write))
    ∙ fused (taken_by t m (drop (i + 1) es)) (turned_where (is_some e.write && is_other_at e.key t m) taken_away) cur
    ∙ sym (ap (λ (xs : List Entry). option_map (taken_by t m xs) cur) (rest_at es i e at))
    ∙ before

pub part_done : (t : ℕ) (m : Mark) (es : List Entry) (i : ℕ) (cur init : Option Lock) → length es ≤ i
    → option_map (taken_by t m (drop i es)) cur ≡ option_map (taken_by t m es) init
    → cur ≡ option_map (turned_where (is_taken t es m) taken_away) init
part_done t m es i cur init le before =
    sym (same_lock (taken_by t m (drop i es)) (λ l. ap (λ (xs : List Entry). taken_by t m xs l) (rest_end es i le)) cur)
    ∙ before
    ∙ turned_alike (taken_by t m es) (turned_where (is_taken t es m) taken_away) (taken_by-is t m es) init

pub copied_some : {X : Type 0} (o : Option (Bor X)) → is_some (option_copied o) ≡ is_some o
copied_some None = refl
copied_some (Some x) = refl
