-- What is left of a list from a place on.
use Rattle.std.proofs.Common.{◌≡◌, ◌==◌, ◌-◌, ◌^◌, ℕ, zero, suc, ◌+◌, ◌≤◌, ◌<◌, true, false, ◌&&◌, is_some, List, [], ◌∷◌, length, get_or, drop, drop-cons, slice_get, Some, refl, ap, sym, ◌∙◌, arith, add-one}
use Rattle.std.specs.List.{list_any}
use Rattle.rc_body.specs.Bodies.{KeysDiffer}
use Rattle.rc_body.specs.Entries.{wears_out}
use Rattle.rc_body.specs.declared.entry.Entry.{Entry}
use Rattle.rc_body.proofs.Places.{none_passes}

rest_next : {X : Type 0} (xs : List X) (i : ℕ) (x : X) → slice_get xs i ≡ Some x → drop i xs ≡ x ∷ drop (suc i) xs
rest_next [] i x at = cc
rest_next (y ∷ ys) zero x at = let e : y ≡ x = cc in ap (λ z. z ∷ ys) e
rest_next (y ∷ ys) (suc i) x at = rest_next ys i x at

-- it begins with the item at the place
pub rest_at : {X : Type 0} (xs : List X) (i : ℕ) (x : X) → slice_get xs i ≡ Some x → drop i xs ≡ x ∷ drop (i + 1) xs
rest_at xs i x at = rw add-one (rest_next xs i x at)

pub item_at : {X : Type 0} (xs : List X) (i : ℕ) (x : X) → i < length xs → x ≡ get_or xs i x → drop i xs ≡ x ∷ drop (i + 1) xs
item_at xs i x lt is = rw (add-one, drop-cons xs i x) (ap (λ y. y ∷ drop (suc i) xs) (sym is))

-- it is empty at the end
pub rest_end : {X : Type 0} (xs : List X) (i : ℕ) → length xs ≤ i → drop i xs ≡ []
rest_end [] zero le = refl
rest_end [] (suc i) le = refl
rest_end (x ∷ xs) zero le = absurd (omega arith)
rest_end (x ∷ xs) (suc i) le = rest_end xs i (omega arith)

-- its keys differ
pub rest_apart : (es : List Entry) (i : ℕ) → KeysDiffer es → KeysDiffer (drop i es)
rest_apart [] zero apart = tt
rest_apart [] (suc i) apart = tt
rest_apart (e ∷ es) zero apart = apart
rest_apart (e ∷ es) (suc i) apart = rest_apart es i apart.1

-- a written entry of a body has no last version
pub lasts : (body : List Entry) (i : ℕ) (e : Entry) → list_any wears_out body ≡ false → slice_get body i ≡ Some e → is_some e.write ≡ true
    → (e.version == 2 ^ 62 - 1) ≡ false
lasts body i e none at written = sym (ap (λ b. b && (e.version == 2 ^ 62 - 1)) written) ∙ none_passes wears_out body i e none at
