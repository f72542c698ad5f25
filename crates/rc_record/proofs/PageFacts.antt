-- Pages of the list of outcomes.
use Rattle.std.proofs.Common.{◌≡◌, ℕ, zero, suc, ◌+◌, ◌-◌, ◌<◌, ◌≤◌, ◌==◌, false, List, [], ◌∷◌, ◌++◌, length, take, drop, slice_get, Some, min, nat_eq, refl, sym, ap, ◌∙◌, arith}
use Rattle.std.specs.List.{AllByRecursion, IsDistinct}
use Rattle.std.specs.Map.{keys_of}
use Rattle.std.proofs.lemmas.Bool.{or_from}
use Rattle.std.proofs.lemmas.Cmp.{nat_eq_equiv}
use Rattle.std.proofs.lemmas.Map.Keys.{IsDistinct-head, IsDistinct-tail}
use Rattle.std.proofs.lemmas.List.{length-drop, length-take, take_all}
use Rattle.rc_body.specs.declared.decision.Decision.{Decision}
use Rattle.rc_body.specs.Pages.{has_tx, TxsDiffer}
use Rattle.rc_body.proofs.Places.{take-one_more}
use Rattle.rc_body.proofs.PageFacts.{TxsDiffer-before}

-- keys that differ are transactions that differ
absent : {X : Type 0} (t : ℕ) (xs : List (ℕ × X)) → AllByRecursion (λ k. nat_eq t k ≡ false) (keys_of xs) → has_tx t xs ≡ false
absent t [] all = refl
absent t (x ∷ xs) all = or_from (x.0 == t) (has_tx t xs) (nat_eq_equiv.symm x.0 t ∙ all.0) (absent t xs all.1)

apart : {X : Type 0} (xs : List (ℕ × X)) → IsDistinct nat_eq (keys_of xs) → TxsDiffer xs
apart [] distinct = tt
apart (x ∷ xs) distinct =
    (absent x.0 xs (IsDistinct-head nat_eq x.0 (keys_of xs) distinct), apart xs (IsDistinct-tail nat_eq x.0 (keys_of xs) distinct))

apart-drop : {X : Type 0} (n : ℕ) (xs : List (ℕ × X)) → TxsDiffer xs → TxsDiffer (drop n xs)
apart-drop zero xs differ = differ
apart-drop (suc n) [] differ = tt
apart-drop (suc n) (x ∷ xs) differ = apart-drop n xs differ.1

-- what stands at a place of a list without its first items
behind : {X : Type 0} (xs : List X) (n k i : ℕ) → i ≡ n + k → slice_get (drop n xs) k ≡ slice_get xs i
behind xs zero k i at = let same : k ≡ i = omega arith in ap (slice_get xs) same
behind [] (suc n) k i at = refl
behind (x ∷ xs) (suc n) k zero at = absurd (omega arith)
behind (x ∷ xs) (suc n) k (suc i) at = behind xs n k i (omega arith)

at_first : {X : Type 0} (xs : List X) (first i : ℕ) (x : X) → first ≤ i → slice_get xs i ≡ Some x → slice_get (drop first xs) (i - first) ≡ Some x
at_first xs first i x le at = behind xs first (i - first) i (omega arith) ∙ at

-- one more entry
pub more_of : {X : Type 0} (xs : List X) (first i : ℕ) (x : X) → first ≤ i → slice_get xs i ≡ Some x
    → take (i + 1 - first) (drop first xs) ≡ take (i - first) (drop first xs) ++ x ∷ []
more_of xs first i x le at =
    let same : i + 1 - first ≡ i - first + 1 = omega arith in
    ap (λ n. take n (drop first xs)) same ∙ take-one_more (drop first xs) (i - first) x (at_first xs first i x le at)

-- its transaction is none of those before
pub new_to : (xs page : List (ℕ × Decision)) (first i t : ℕ) (d : Decision) → IsDistinct nat_eq (keys_of xs) → first ≤ i → slice_get xs i ≡ Some (t, d)
    → page ≡ take (i - first) (drop first xs) → has_tx t page ≡ false
new_to xs page first i t d distinct le at is =
    ap (has_tx t) is
    ∙ TxsDiffer-before (drop first xs) (i - first) t d (apart-drop first xs (apart xs distinct)) (at_first xs first i (t, d) le at)

-- there is room for it
pub room_for : {X : Type 0} (xs page : List X) (first i end : ℕ) → i < end → end ≤ first + 64 → first ≤ i
    → page ≡ take (i - first) (drop first xs) → length page < 64
room_for xs page first i end lt le from is = omega (arith, ap length is, length-take (i - first) (drop first xs))

-- at the end no entry is left, or the page is full
pub whole_page : {X : Type 0} (xs : List X) (first i end : ℕ) → end ≡ min (length xs) (first + 64) → first ≤ i → end ≤ i → (first ≤ end → i ≤ end)
    → take (i - first) (drop first xs) ≡ take 64 (drop first xs)
whole_page xs first i end is from past upto =
    by (first + 64 - length xs) refl
  where
    by : (less : ℕ) → less ≡ first + 64 - length xs → take (i - first) (drop first xs) ≡ take 64 (drop first xs)
    by zero e = let same : i - first ≡ 64 = omega arith in ap (λ n. take n (drop first xs)) same
    by (suc less) e =
        take_all (i - first) (drop first xs) (omega (arith, length-drop first xs))
        ∙ sym (take_all 64 (drop first xs) (omega (arith, length-drop first xs)))
