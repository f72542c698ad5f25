-- Lists that are written place by place.
use Rattle.std.proofs.Common.{◌≡◌, ℕ, ◌+◌, List, [], ◌∷◌, ◌++◌, take, slice_get, Some, sym, ap, ◌∙◌, append_assoc}
use Rattle.std.specs.List.{flat_map}
use Rattle.std.proofs.lemmas.List.{append-nil}
use Rattle.std.proofs.lemmas.List.Concat.{flat_map-cons, flat_map-append}
use Rattle.rc_body.proofs.Places.{take-one_more}

pub flat_map-one_more : {X : Type 0} (f : X → List ℕ) (xs : List X) (i : ℕ) (x : X) → slice_get xs i ≡ Some x
    → flat_map f (take (i + 1) xs) ≡ flat_map f (take i xs) ++ f x
flat_map-one_more f xs i x at =
    ap (flat_map f) (take-one_more xs i x at) ∙ flat_map-append f (take i xs) (x ∷ [])
    ∙ ap (λ w. flat_map f (take i xs) ++ w) (flat_map-cons f x [] ∙ append-nil (f x))

-- one more element is written behind those that were
pub one_more_written : {X : Type 0} (f : X → List ℕ) (xs : List X) (i : ℕ) (x : X) (out front mid new : List ℕ) → slice_get xs i ≡ Some x
    → mid ≡ out ++ (front ++ flat_map f (take i xs)) → new ≡ mid ++ f x → new ≡ out ++ (front ++ flat_map f (take (i + 1) xs))
one_more_written f xs i x out front mid new at before now =
    now ∙ ap (λ w. w ++ f x) before ∙ append_assoc out (front ++ flat_map f (take i xs)) (f x)
    ∙ ap (λ w. out ++ w) (append_assoc front (flat_map f (take i xs)) (f x) ∙ ap (λ w. front ++ w) (sym (flat_map-one_more f xs i x at)))
