-- Lists read place by place.
use Rattle.std.proofs.Common.{◌≡◌, cond, ℕ, zero, suc, ◌+◌, ◌≤◌, Bool, true, false, List, [], ◌∷◌, ◌++◌, length, take, filter, slice_get, Some, refl, sym, ap, ◌∙◌, arith, add-one}
use Rattle.std.specs.List.{list_any}
use Rattle.std.proofs.lemmas.Bool.{or_parts, or_from}
use Rattle.std.proofs.lemmas.List.{append-nil}
use Rattle.std.proofs.lemmas.List.Elements.{filter-append}

-- one more element
take-next : {X : Type 0} (xs : List X) (i : ℕ) (x : X) → slice_get xs i ≡ Some x → take (suc i) xs ≡ take i xs ++ (x ∷ [])
take-next [] i x at = cc
take-next (y ∷ ys) zero x at = let e : y ≡ x = cc in ap (λ z. z ∷ []) e
take-next (y ∷ ys) (suc i) x at = ap (λ zs. y ∷ zs) (take-next ys i x at)

pub take-one_more : {X : Type 0} (xs : List X) (i : ℕ) (x : X) → slice_get xs i ≡ Some x → take (i + 1) xs ≡ take i xs ++ (x ∷ [])
take-one_more xs i x at = rw add-one (take-next xs i x at)

-- where no element passes, the one at a place does not
pub none_passes : {X : Type 0} (p : X → Bool) (xs : List X) (i : ℕ) (x : X) → list_any p xs ≡ false → slice_get xs i ≡ Some x → p x ≡ false
none_passes p [] i x none at = cc
none_passes p (y ∷ ys) zero x none at = let e : y ≡ x = cc in sym (ap p e) ∙ (or_parts (p y) (list_any p ys) none).0
none_passes p (y ∷ ys) (suc i) x none at = none_passes p ys i x (or_parts (p y) (list_any p ys) none).1 at

-- nor does one that is chosen
pub none_passes-filter : {X : Type 0} (p q : X → Bool) (xs : List X) → list_any p xs ≡ false → list_any p (filter q xs) ≡ false
none_passes-filter p q [] none = refl
none_passes-filter p q (x ∷ xs) none =
    let parts = or_parts (p x) (list_any p xs) none in
    let rest = none_passes-filter p q xs parts.1 in
    chosen (q x) (or_from (p x) (list_any p (filter q xs)) parts.0 rest) rest
  where
    chosen : (b : Bool) → list_any p (x ∷ filter q xs) ≡ false → list_any p (filter q xs) ≡ false
        → list_any p (cond b (x ∷ filter q xs) (filter q xs)) ≡ false
    chosen true kept skipped = kept
    chosen false kept skipped = skipped

-- no more are chosen than there are
pub length-filter_le : {X : Type 0} (q : X → Bool) (xs : List X) → length (filter q xs) ≤ length xs
length-filter_le q [] = omega arith
length-filter_le q (x ∷ xs) = chosen (q x) (length-filter_le q xs)
  where
    chosen : (b : Bool) → length (filter q xs) ≤ length xs → length (cond b (x ∷ filter q xs) (filter q xs)) ≤ length (x ∷ xs)
    chosen true h = omega arith
    chosen false h = omega arith

-- the elements that are chosen among one more
pub filter-one_more : {X : Type 0} (q : X → Bool) (xs : List X) (i : ℕ) (x : X) → slice_get xs i ≡ Some x
    → filter q (take (i + 1) xs) ≡ filter q (take i xs) ++ cond (q x) (x ∷ []) []
filter-one_more q xs i x at = ap (filter q) (take-one_more xs i x at) ∙ filter-append q (take i xs) (x ∷ [])

pub filter-chosen : {X : Type 0} (q : X → Bool) (xs : List X) (i : ℕ) (x : X) → slice_get xs i ≡ Some x → q x ≡ true
    → filter q (take (i + 1) xs) ≡ filter q (take i xs) ++ (x ∷ [])
filter-chosen q xs i x at chosen = filter-one_more q xs i x at ∙ ap (λ b. filter q (take i xs) ++ cond b (x ∷ []) []) chosen

pub filter-skipped : {X : Type 0} (q : X → Bool) (xs : List X) (i : ℕ) (x : X) → slice_get xs i ≡ Some x → q x ≡ false
    → filter q (take (i + 1) xs) ≡ filter q (take i xs)
filter-skipped q xs i x at skipped =
    filter-one_more q xs i x at ∙ ap (λ b. filter q (take i xs) ++ cond b (x ∷ []) []) skipped ∙ append-nil (filter q (take i xs))
