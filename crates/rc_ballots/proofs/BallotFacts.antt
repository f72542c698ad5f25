-- Ballots in their order: where one is, and what one more makes of them.
use Rattle.std.proofs.Common.{◌≡◌, ℕ, zero, suc, ◌<◌, ◌≤◌, ◌==◌, Bool, true, false, cond, if◌then◌else◌, List, [], ◌∷◌, length, get_or, insert, slice_get, slice_set, Option, Some, None, is_some, nat_lt, refl, sym, ap, ◌∙◌, arith}
use Rattle.std.specs.declared.cmp.Ordering.{Ordering}
use Rattle.std.specs.declared.cmp.Ordering.TheVariants.{Less, Equal, Greater}
use Rattle.std.specs.Ordering.{nat_cmp, is_eq, match_ordering}
use Rattle.std.specs.List.Sorted.{IsPartitionedBy, IsPartitionPoint}
use Rattle.std.proofs.lemmas.Bool.Decides.{nat_tests}
use Rattle.rc_ids.specs.Tables.{found, put, maybe}
use Rattle.rc_protocol.specs.Coordinator.{Standing, nobody, standing_at}
use Rattle.rc_ballots.specs.Tallies.{AreAbove, Rises, rank, held}

abbrev pub Row : Type 0
Row = ℕ × Standing

-- the row's ballot is below b
abbrev pub is_below : ℕ → Row → Bool
is_below b r = nat_lt r.0 b

some_row : Row
some_row = (0, nobody)

-- TESTS
lt_of : (a b : ℕ) → nat_lt a b ≡ true → a < b
lt_of a b h = grind (arith, nat_tests)

le_of : (a b : ℕ) → nat_lt a b ≡ false → b ≤ a
le_of a b h = grind (arith, nat_tests)

eq_of : (a b : ℕ) → (a == b) ≡ true → a ≡ b
eq_of a b h = grind (arith, nat_tests)

to_lt : (a b : ℕ) → a < b → nat_lt a b ≡ true
to_lt a b h = grind (arith, nat_tests)

cmp_less : (a b : ℕ) → a < b → nat_cmp a b ≡ Less
cmp_less a b lt = grind (arith, nat_tests)

cmp_same : (a b : ℕ) → a ≡ b → nat_cmp a b ≡ Equal
cmp_same a b e = grind (arith, nat_tests)

cmp_more : (a b : ℕ) → b < a → nat_cmp a b ≡ Greater
cmp_more a b lt = grind (arith, nat_tests)

-- ORDER
above_all : (a b : ℕ) (rs : List Row) → a < b → AreAbove b rs → AreAbove a rs
above_all a b [] lt all = tt
above_all a b (r ∷ rs) lt all = (omega (arith, all.0), above_all a b rs lt all.1)

above_at : (b : ℕ) (rs : List Row) → AreAbove b rs → (j : ℕ) (d : Row) → j < length rs → b < (get_or rs j d).0
above_at b [] all j d lt = absurd (omega arith)
above_at b (r ∷ rs) all zero d lt = all.0
above_at b (r ∷ rs) all (suc j) d lt = above_at b rs all.1 j d (omega arith)

below_before : (a b h : ℕ) → a < h → nat_lt h b ≡ true → nat_lt a b ≡ true
below_before a b h lt below = to_lt a b (omega (arith, lt_of h b below))

-- SEARCH BY HALVES
pub parted : (b : ℕ) (rows : List Row) → Rises rows → IsPartitionedBy (is_below b) rows
parted b [] rises i j d le lt below = absurd (omega arith)
parted b (r ∷ rs) rises zero zero d le lt below = below
parted b (r ∷ rs) rises zero (suc j) d le lt below = below_before r.0 b (get_or rs j d).0 (above_at r.0 rs rises.0 j d (omega arith)) below
parted b (r ∷ rs) rises (suc i) zero d le lt below = absurd (omega arith)
parted b (r ∷ rs) rises (suc i) (suc j) d le lt below = parted b rs rises.1 i j d (omega arith) (omega arith) below

pub counted_below : (b : ℕ) (rows : List Row) (i : ℕ) → i ≤ length rows → IsPartitionPoint (λ r. is_below b r ≡ true) (λ r. is_below b r ≡ false) rows i
    → i ≡ rank b rows
counted_below b [] zero le point = refl
counted_below b [] (suc i) le point = absurd (omega arith)
counted_below b (r ∷ rs) zero le point =
    let first : is_below b r ≡ false = point.1 0 some_row (omega arith) (omega arith) in
    sym (ap (λ (t : Bool). if t then suc (rank b rs) else 0) first)
counted_below b (r ∷ rs) (suc i) le point =
    let first : is_below b r ≡ true = point.0 0 some_row (omega arith) (omega arith) in
    let others = counted_below b rs i (omega arith) (λ j d low lt. point.0 (suc j) d (omega arith) (omega arith), λ j d low lt. point.1 (suc j) d (omega arith) (omega arith)) in
    ap suc others ∙ sym (ap (λ (t : Bool). if t then suc (rank b rs) else 0) first)

pub rank_few : (b : ℕ) (rows : List Row) → rank b rows ≤ length rows
rank_few b [] = omega arith
rank_few b (r ∷ rs) = chosen (is_below b r) (rank_few b rs)
  where
    chosen : (t : Bool) → rank b rs ≤ length rs → (if t then suc (rank b rs) else 0) ≤ length (r ∷ rs)
    chosen true le = omega arith
    chosen false le = omega arith

-- what a rank says of the first row
rank_zero : (b : ℕ) (r : Row) (rs : List Row) → zero ≡ rank b (r ∷ rs) → b ≤ r.0
rank_zero b r rs place = chosen (is_below b r) refl place
  where
    chosen : (t : Bool) → is_below b r ≡ t → zero ≡ (if t then suc (rank b rs) else 0) → b ≤ r.0
    chosen true is place = absurd (omega arith)
    chosen false is place = le_of r.0 b is

rank_suc : (b : ℕ) (r : Row) (rs : List Row) (i : ℕ) → suc i ≡ rank b (r ∷ rs) → (r.0 < b) × (i ≡ rank b rs)
rank_suc b r rs i place = chosen (is_below b r) refl place
  where
    chosen : (t : Bool) → is_below b r ≡ t → suc i ≡ (if t then suc (rank b rs) else 0) → (r.0 < b) × (i ≡ rank b rs)
    chosen true is place = (lt_of r.0 b is, omega arith)
    chosen false is place = absurd (omega arith)

-- THE ROW AT A PLACE
held_same : (b : ℕ) (r : Row) → is_some (held b (Some r)) ≡ true → b ≡ r.0
held_same b r there = chosen (b == r.0) refl there
  where
    chosen : (t : Bool) → (b == r.0) ≡ t → is_some (if t then Some r.1 else None) ≡ true → b ≡ r.0
    chosen true is there = eq_of b r.0 is
    chosen false is there = absurd cc

held_other : (b : ℕ) (r : Row) → is_some (held b (Some r)) ≡ false → b ≡ r.0 → ⊥
held_other b r none same = absurd (cc (ap (λ (t : Bool). is_some (if t then Some r.1 else None)) (eq_true b r.0 same)))
  where
    eq_true : (a c : ℕ) → a ≡ c → (a == c) ≡ true
    eq_true a c e = grind (arith, nat_tests)

none_held : (o : Option Standing) → is_some o ≡ false → o ≡ None
none_held None e = refl
none_held (Some x) e = absurd cc

pub held_bound : (b : ℕ) (rows : List Row) (i : ℕ) → is_some (held b (slice_get rows i)) ≡ true → i < length rows
held_bound b [] i there = absurd cc
held_bound b (x ∷ xs) zero there = omega arith
held_bound b (x ∷ xs) (suc i) there = let lt : i < length xs = held_bound b xs i there in omega arith

held_row : (b : ℕ) (rows : List Row) (i : ℕ) (d : Row) → is_some (held b (slice_get rows i)) ≡ true → held b (slice_get rows i) ≡ Some (get_or rows i d).1
held_row b [] i d there = absurd cc
held_row b (r ∷ rs) zero d there = chosen (b == r.0) there
  where
    chosen : (t : Bool) → is_some (if t then Some r.1 else None) ≡ true → (if t then Some r.1 else None) ≡ Some r.1
    chosen true there = refl
    chosen false there = absurd cc
held_row b (r ∷ rs) (suc i) d there = held_row b rs i d there

-- WHAT IS FOUND
found_past : (b : ℕ) (r : Row) (rs : List Row) (o : Ordering) → nat_cmp b r.0 ≡ o → is_eq o ≡ false → found nat_cmp (r ∷ rs) b ≡ found nat_cmp rs b
found_past b r rs o is other = ap (λ (p : Ordering). cond (is_eq p) (Some r.1) (found nat_cmp rs b)) is ∙ ap (λ (t : Bool). cond t (Some r.1) (found nat_cmp rs b)) other

none_above : (b h : ℕ) (rs : List Row) → b < h → AreAbove h rs → found nat_cmp rs b ≡ None
none_above b h [] lt all = refl
none_above b h (r ∷ rs) lt all = found_past b r rs Less (cmp_less b r.0 (omega (arith, all.0))) refl ∙ none_above b h rs lt all.1

pub found_at : (b : ℕ) (rows : List Row) (i : ℕ) → Rises rows → i ≡ rank b rows → found nat_cmp rows b ≡ held b (slice_get rows i)
found_at b [] i rises place = refl
found_at b (r ∷ rs) zero rises place = chosen (b == r.0) refl
  where
    chosen : (t : Bool) → (b == r.0) ≡ t → found nat_cmp (r ∷ rs) b ≡ (if t then Some r.1 else None)
    chosen true is = ap (λ (o : Ordering). cond (is_eq o) (Some r.1) (found nat_cmp rs b)) (cmp_same b r.0 (eq_of b r.0 is))
    chosen false is =
        let lt : b < r.0 = let le = rank_zero b r rs place in grind (arith, nat_tests) in
        found_past b r rs Less (cmp_less b r.0 lt) refl ∙ none_above b r.0 rs lt rises.0
found_at b (r ∷ rs) (suc i) rises place =
    let later = rank_suc b r rs i place in
    found_past b r rs Greater (cmp_more b r.0 later.0) refl ∙ found_at b rs i rises.1 later.1

pub found_none : (b : ℕ) (rows : List Row) (i : ℕ) → Rises rows → i ≡ rank b rows → is_some (held b (slice_get rows i)) ≡ false → found nat_cmp rows b ≡ None
found_none b rows i rises place none = found_at b rows i rises place ∙ none_held (held b (slice_get rows i)) none

pub standing_none : (b : ℕ) (rows : List Row) (i : ℕ) → Rises rows → i ≡ rank b rows → is_some (held b (slice_get rows i)) ≡ false → nobody ≡ standing_at rows b
standing_none b rows i rises place none = sym (ap (λ (o : Option Standing). maybe o nobody (λ s. s)) (found_none b rows i rises place none))

pub standing_there : (b : ℕ) (rows : List Row) (i : ℕ) (d : Row) → Rises rows → i ≡ rank b rows → is_some (held b (slice_get rows i)) ≡ true
    → (get_or rows i d).1 ≡ standing_at rows b
standing_there b rows i d rises place there =
    sym (ap (λ (o : Option Standing). maybe o nobody (λ s. s)) (found_at b rows i rises place ∙ held_row b rows i d there))

-- ONE MORE
put_by : (b : ℕ) (x : Standing) (r : Row) (rs : List Row) (o : Ordering) → nat_cmp b r.0 ≡ o
    → put nat_cmp (r ∷ rs) b x ≡ match_ordering o ((b, x) ∷ r ∷ rs) ((r.0, x) ∷ rs) (r ∷ put nat_cmp rs b x)
put_by b x r rs o is = ap (λ (p : Ordering). match_ordering p ((b, x) ∷ r ∷ rs) ((r.0, x) ∷ rs) (r ∷ put nat_cmp rs b x)) is

pub put_new : (b : ℕ) (x : Standing) (rows : List Row) (i : ℕ) → i ≡ rank b rows → is_some (held b (slice_get rows i)) ≡ false
    → insert rows i (b, x) ≡ put nat_cmp rows b x
put_new b x [] zero place none = refl
put_new b x [] (suc i) place none = absurd (omega arith)
put_new b x (r ∷ rs) zero place none =
    let le = rank_zero b r rs place in
    let other : b ≡ r.0 → ⊥ = held_other b r none in
    let lt : b < r.0 = omega arith in
    sym (put_by b x r rs Less (cmp_less b r.0 lt))
put_new b x (r ∷ rs) (suc i) place none =
    let later = rank_suc b r rs i place in
    ap (λ (es : List Row). r ∷ es) (put_new b x rs i later.1 none) ∙ sym (put_by b x r rs Greater (cmp_more b r.0 later.0))

pub put_there : (b : ℕ) (x : Standing) (rows : List Row) (i : ℕ) (d : Row) → i ≡ rank b rows → is_some (held b (slice_get rows i)) ≡ true
    → slice_set rows i ((get_or rows i d).0, x) ≡ put nat_cmp rows b x
put_there b x [] i d place there = absurd cc
put_there b x (r ∷ rs) zero d place there = sym (put_by b x r rs Equal (cmp_same b r.0 (held_same b r there)))
put_there b x (r ∷ rs) (suc i) d place there =
    let later = rank_suc b r rs i place in
    ap (λ (es : List Row). r ∷ es) (put_there b x rs i d later.1 there) ∙ sym (put_by b x r rs Greater (cmp_more b r.0 later.0))

above-put : (h b : ℕ) (x : Standing) (rows : List Row) → h < b → AreAbove h rows → AreAbove h (put nat_cmp rows b x)
above-put h b x [] lt all = (lt, tt)
above-put h b x (r ∷ rs) lt all = placed (nat_cmp b r.0) (above-put h b x rs lt all.1)
  where
    placed : (o : Ordering) → AreAbove h (put nat_cmp rs b x) → AreAbove h (match_ordering o ((b, x) ∷ r ∷ rs) ((r.0, x) ∷ rs) (r ∷ put nat_cmp rs b x))
    placed Less rest = (lt, all)
    placed Equal rest = all
    placed Greater rest = (all.0, rest)

less_of : (a b : ℕ) → nat_cmp a b ≡ Less → a < b
less_of a b is = grind (arith, nat_tests)

more_of : (a b : ℕ) → nat_cmp a b ≡ Greater → b < a
more_of a b is = grind (arith, nat_tests)

pub Rises-put : (b : ℕ) (x : Standing) (rows : List Row) → Rises rows → Rises (put nat_cmp rows b x)
Rises-put b x [] rises = (tt, tt)
Rises-put b x (r ∷ rs) rises = placed (nat_cmp b r.0) refl (Rises-put b x rs rises.1)
  where
    placed : (o : Ordering) → nat_cmp b r.0 ≡ o → Rises (put nat_cmp rs b x) → Rises (match_ordering o ((b, x) ∷ r ∷ rs) ((r.0, x) ∷ rs) (r ∷ put nat_cmp rs b x))
    placed Less is rest = let lt = less_of b r.0 is in ((lt, above_all b r.0 rs lt rises.0), rises)
    placed Equal is rest = rises
    placed Greater is rest = (above-put r.0 b x rs (more_of b r.0 is) rises.0, rest)
