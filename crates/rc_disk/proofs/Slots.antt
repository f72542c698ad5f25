-- The slots of a farm: each node has its own, and a walk changes each.
use Rattle.std.proofs.Common.{◌≡◌, ◌≢◌, ◌⊎◌, inl, inr, ℕ, zero, suc, ◌+◌, ◌-◌, ◌*◌, ◌<◌, ◌≤◌, ◌&&◌, nat_le, Bool, true, false, if◌then◌else◌, List, [], ◌∷◌, length, get_or, set, Option, None, Some, slice_get, slice_set, refl, sym, ap, subst, ◌∙◌, arith, get_or-set_same, get_or-set_other}
use Rattle.std.proofs.lemmas.List.{length-set, get_or_default}
use Rattle.std.proofs.lemmas.Option.{slice_get-get_or, slice_get_cases}
use Rattle.std.proofs.Math.Nat.{eq-or-lt_of_le}
use Rattle.rc_ids.specs.declared.names.NodeId.{NodeId}
use Rattle.rc_ids.specs.declared.names.NodeId.TheVariants.{Coord, Shard}
use Rattle.rc_disk.specs.Places.{Standing, Start, start_of, IsReady, IsFresh, HasLaterCounts}
use Rattle.rc_disk.specs.Shelves.{is_node, place, slot_at, on_slot, no_standing, stands_in, start_in, lent_in, IsSelected, Walked}

pub walk_on : {S : Type 0} (R : S → S → Type 0) (first now : List S) (i : ℕ) (e y : S) → Walked R first now i → i < length now
    → R (get_or now i e) y → Walked R first (set now i y) (i + 1)
walk_on {S = S} R first now i e y walked inside step = record {
  same_length = length-set now i y ∙ walked.same_length;
  done = λ k d below within. let near : k ≤ i = omega (arith, below) in at_place k d within (eq-or-lt_of_le near);
  rest = λ k d above. let other : k ≢ i = omega (arith, above) in let le : i ≤ k = omega (arith, above) in get_or-set_other now i k y d other ∙ walked.rest k d le;
}
  where
    at_place : (k : ℕ) (d : S) → k < length first → (k ≡ i) ⊎ (k < i) → R (get_or first k d) (get_or (set now i y) k d)
    at_place k d within (inr below) =
        let other : k ≢ i = omega (arith, below) in
        subst (λ (z : S). R (get_or first k d) z) (sym (get_or-set_other now i k y d other)) (walked.done k d below within)
    at_place k d within (inl here) =
        let le : i ≤ i = omega arith in
        let before : get_or now i e ≡ get_or first i d = get_or_default now i e d inside ∙ walked.rest i d le in
        subst (λ (j : ℕ). R (get_or first j d) (get_or (set now i y) j d)) (sym here)
        (subst (λ (z : S). R z (get_or (set now i y) i d)) before (subst (λ (z : S). R (get_or now i e) z) (sym (get_or-set_same now i y d inside)) step))

pub walk_none : {S : Type 0} (R : S → S → Type 0) (first : List S) → Walked R first first 0
walk_none R first = record { same_length = refl; done = λ k d below within. grind (arith, below); rest = λ k d above. refl }

within : (a n b : ℕ) → (nat_le a n && nat_le n b) ≡ true → (a ≤ n) × (n ≤ b)
within a n b h = grind (arith, h)

both : (a b : Bool) → (a && b) ≡ true → (a ≡ true) × (b ≡ true)
both true true h = (refl, refl)
both true false h = absurd (cc)
both false b h = absurd (cc)

pub place_inside : (n : NodeId) → is_node n ≡ true → place n < 63
place_inside (Coord dc) h = omega (arith, within 1 dc 7 h)
place_inside (Shard dc shard) h =
    let parts = both (nat_le 1 dc && nat_le dc 7) (nat_le 1 shard && nat_le shard 8) h in
    omega (arith, within 1 dc 7 parts.0, within 1 shard 8 parts.1)

place_apart : (n m : NodeId) → is_node n ≡ true → is_node m ≡ true → place n ≡ place m → n ≡ m
place_apart (Coord dc) (Coord other) h k same =
    let is : dc ≡ other = omega (arith, within 1 dc 7 h, within 1 other 7 k, same) in ap Coord is
place_apart (Coord dc) (Shard other shard) h k same = let no : ⊥ = omega (arith, within 1 dc 7 h, same) in absurd no
place_apart (Shard other shard) (Coord dc) h k same = let no : ⊥ = omega (arith, within 1 dc 7 k, same) in absurd no
place_apart (Shard dc shard) (Shard dc' shard') h k same =
    let parts = both (nat_le 1 dc && nat_le dc 7) (nat_le 1 shard && nat_le shard 8) h in
    let parts' = both (nat_le 1 dc' && nat_le dc' 7) (nat_le 1 shard' && nat_le shard' 8) k in
    let in_dc = within 1 dc 7 parts.0 in
    let in_shard = within 1 shard 8 parts.1 in
    let in_dc' = within 1 dc' 7 parts'.0 in
    let in_shard' = within 1 shard' 8 parts'.1 in
    let dcs : dc ≡ dc' = omega (arith, in_dc, in_shard, in_dc', in_shard', same) in
    let shards : shard ≡ shard' = omega (arith, in_dc, in_shard, in_dc', in_shard', same) in
    ap (λ (d : ℕ). Shard d shard) dcs ∙ ap (λ (s : ℕ). Shard dc' s) shards

slice_get-set_other : {S : Type 0} → (xs : List S) (i k : ℕ) (y : S) → k ≢ i → slice_get (set xs i y) k ≡ slice_get xs k
slice_get-set_other [] i k y other = refl
slice_get-set_other (x ∷ xs) zero zero y other = absurd (other refl)
slice_get-set_other (x ∷ xs) zero (suc k) y other = refl
slice_get-set_other (x ∷ xs) (suc i) zero y other = refl
slice_get-set_other (x ∷ xs) (suc i) (suc k) y other = slice_get-set_other xs i k y (λ (e : k ≡ i). other (ap suc e))

-- a slot that was changed is there, and the others are as before
pub slot_there : {S : Type 0} → (slots : List S) (n : NodeId) (y : S) → is_node n ≡ true → place n < length slots → slot_at (set slots (place n) y) n ≡ Some y
slot_there {S = S} slots n y node inside =
    let long : place n < length (set slots (place n) y) = omega (arith, inside, length-set slots (place n) y) in
    ap (λ (b : Bool). if b then slice_get (set slots (place n) y) (place n) else None) node
    ∙ slice_get-get_or (set slots (place n) y) (place n) y long ∙ ap Some (get_or-set_same slots (place n) y y inside)

pub slot_was : {S : Type 0} → (slots : List S) (n : NodeId) (d : S) → is_node n ≡ true → place n < length slots → slot_at slots n ≡ Some (get_or slots (place n) d)
slot_was {S = S} slots n d node inside =
    ap (λ (b : Bool). if b then slice_get slots (place n) else None) node ∙ slice_get-get_or slots (place n) d inside

pub slots_apart : {S : Type 0} → (slots : List S) (n node : NodeId) (y : S) → is_node node ≡ true → n ≢ node → slot_at (set slots (place node) y) n ≡ slot_at slots n
slots_apart {S = S} slots n node y is other = by_test (is_node n) (λ h. slice_get-set_other slots (place node) (place n) y (λ (e : place n ≡ place node). other (place_apart n node h is e)))
  where
    by_test : (b : Bool) → (b ≡ true → slice_get (set slots (place node) y) (place n) ≡ slice_get slots (place n))
        → (if b then slice_get (set slots (place node) y) (place n) else None) ≡ (if b then slice_get slots (place n) else None)
    by_test true f = f refl
    by_test false f = refl

nothing_selected : (folder : Bool) → IsSelected folder no_standing no_standing (start_of no_standing) false
nothing_selected folder = record {
  is_here = refl;
  started = refl;
  ready = record { on = refl; told_on = tt };
  empty = λ none. record { nothing = tt; no_image = tt };
  counts = record { of_faults = omega arith; of_cuts = omega arith };
}

-- what the walk did to the slot of a node, where it has one
pub at_node : {S : Type 0} (R : S → S → Type 0) (old new : List S) (count : ℕ) → length old ≡ 63 → count ≡ length old → Walked R old new count
    → (n : NodeId) (P : Option S → Option S → Type 0) → P None None → ((x y : S) → R x y → P (Some x) (Some y)) → P (slot_at old n) (slot_at new n)
at_node {S = S} R old new count long whole walked n P none some = by_test (is_node n) (place_inside n)
  where
    by_test : (b : Bool) → (b ≡ true → place n < 63) → P (if b then slice_get old (place n) else None) (if b then slice_get new (place n) else None)
    by_test false inside = none
    by_test true inside = by_cases (slice_get_cases old (place n)).1
      where
        by_cases : ((x : S) × (place n < length old) × (slice_get old (place n) ≡ Some x) × (get_or old (place n) x ≡ x)) ⊎ ((length old ≤ place n) × (slice_get old (place n) ≡ None))
            → P (slice_get old (place n)) (slice_get new (place n))
        by_cases (inr (past, nothing)) = let no : ⊥ = omega (arith, past, long, inside refl) in absurd no
        by_cases (inl (x, within, is, at)) =
            let below : place n < count = omega (arith, within, whole) in
            let long_new : place n < length new = omega (arith, within, walked.same_length) in
            let y = get_or new (place n) x in
            let step : R x y = subst (λ (z : S). R z y) at (walked.done (place n) x below within) in
            subst (λ (o : Option S). P o (slice_get new (place n))) (sym is) (subst (λ (o : Option S). P (Some x) o) (sym (slice_get-get_or new (place n) x long_new)) (some x y step))

-- each node's slot was selected
pub selected : {S : Type 0} (st : S → Standing) (start : S → Start) (lent : S → Bool) (folder : Bool) (old new : List S) (count : ℕ) → length old ≡ 63
    → count ≡ length old → Walked (λ x y. lent x ≡ false → IsSelected folder (st x) (st y) (start y) (lent y)) old new count
    → (n : NodeId) → lent_in lent old n ≡ false
    → IsSelected folder (stands_in st old n) (stands_in st new n) (start_in start new n) (lent_in lent new n)
selected st start lent folder old new count long whole walked n here =
    at_node (λ x y. lent x ≡ false → IsSelected folder (st x) (st y) (start y) (lent y)) old new count long whole walked n
    (λ o o'. on_slot false lent o ≡ false → IsSelected folder (on_slot no_standing st o) (on_slot no_standing st o') (on_slot (start_of no_standing) start o') (on_slot false lent o'))
    (λ none. nothing_selected folder) (λ x y step. step) here

-- what is told of the slots, where one of them was changed
pub told_there : {S A : Type 0} (f : S → A) (nothing : A) (items new : List S) (n : NodeId) (y : S) → new ≡ set items (place n) y
    → is_node n ≡ true → length items ≡ 63 → on_slot nothing f (slot_at new n) ≡ f y
told_there {S = S} f nothing items new n y is node long =
    let inside : place n < length items = omega (arith, place_inside n node, long) in
    ap (λ (l : List S). on_slot nothing f (slot_at l n)) is ∙ ap (on_slot nothing f) (slot_there items n y node inside)

pub told_apart : {S A : Type 0} (f : S → A) (nothing : A) (items new : List S) (n node : NodeId) (y : S) → new ≡ set items (place node) y
    → is_node node ≡ true → n ≢ node → on_slot nothing f (slot_at new n) ≡ on_slot nothing f (slot_at items n)
told_apart {S = S} f nothing items new n node y is valid other =
    ap (λ (l : List S). on_slot nothing f (slot_at l n)) is ∙ ap (on_slot nothing f) (slots_apart items n node y valid other)

get_kept : {S A : Type 0} (f : S → A) (nothing : A) (xs : List S) (i k : ℕ) (y d : S) → i < length xs → f y ≡ f (get_or xs i d)
    → on_slot nothing f (slice_get (set xs i y) k) ≡ on_slot nothing f (slice_get xs k)
get_kept f nothing [] i k y d inside same = refl
get_kept f nothing (x ∷ xs) zero zero y d inside same = same
get_kept f nothing (x ∷ xs) zero (suc k) y d inside same = refl
get_kept f nothing (x ∷ xs) (suc i) zero y d inside same = refl
get_kept f nothing (x ∷ xs) (suc i) (suc k) y d inside same = let less : i < length xs = omega (arith, inside) in get_kept f nothing xs i k y d less same

pub told_kept : {S A : Type 0} (f : S → A) (nothing : A) (items new : List S) (n node : NodeId) (y d : S) → new ≡ set items (place node) y
    → is_node node ≡ true → length items ≡ 63 → f y ≡ f (get_or items (place node) d) → on_slot nothing f (slot_at new n) ≡ on_slot nothing f (slot_at items n)
told_kept {S = S} f nothing items new n node y d is valid long same =
    let inside : place node < length items = omega (arith, place_inside node valid, long) in
    ap (λ (l : List S). on_slot nothing f (slot_at l n)) is ∙ by_test (is_node n) inside
  where
    by_test : (b : Bool) → place node < length items
        → on_slot nothing f (if b then slice_get (set items (place node) y) (place n) else None) ≡ on_slot nothing f (if b then slice_get items (place n) else None)
    by_test true inside = get_kept f nothing items (place node) (place n) y d inside same
    by_test false inside = refl

pub told_was : {S A : Type 0} (f : S → A) (nothing : A) (items : List S) (n : NodeId) (d : S) → is_node n ≡ true → length items ≡ 63
    → on_slot nothing f (slot_at items n) ≡ f (get_or items (place n) d)
told_was f nothing items n d node long =
    let inside : place n < length items = omega (arith, place_inside n node, long) in ap (on_slot nothing f) (slot_was items n d node inside)

-- an element of a list that has one there
pub element : {S : Type 0} → (xs : List S) (i : ℕ) → i < length xs → S
element [] i inside = absurd (none i inside)
  where
    none : (i : ℕ) → i < 0 → ⊥
    none i h = omega (arith, h)
element (x ∷ xs) i inside = x
