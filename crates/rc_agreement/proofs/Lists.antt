-- Lists that are searched by a test, and lists that are mapped.
use Rattle.std.proofs.Common.{◌≡◌, ℕ, zero, suc, List, [], ◌∷◌, refl, sym, ap, ◌∙◌, Bool, true, false, Some, inl, inr, ⊎_elim, true≢false}
use Rattle.std.specs.Prelude.{map, slice_get, slice_set, ◌||◌}
use Rattle.std.specs.List.{list_any}
use Rattle.rc_ids.specs.Tables.{In}
use Rattle.rc_agreement.proofs.Cases.{some_is, or_case, or_left, or_right}

module _ {A : Type 0} (p : A → Bool) where
  pub any_some : (xs : List A) (x : A) → In x xs → p x ≡ true → list_any p xs ≡ true
  any_some [] x i h = absurd i
  any_some (y ∷ ys) x (inl e) h = let k : p y ≡ true = ap p e ∙ h in rw k
  any_some (y ∷ ys) x (inr i) h = or_right (p y) _ (any_some ys x i h)

  pub any_of : (xs : List A) → list_any p xs ≡ true → (x : A) × In x xs × (p x ≡ true)
  any_of [] h = absurd (true≢false (sym h))
  any_of (x ∷ xs) h = go (any_of xs) (p x) refl h
    where
      go : (list_any p xs ≡ true → (y : A) × In y xs × (p y ≡ true)) → (b : Bool) → p x ≡ b → (b || list_any p xs) ≡ true → (y : A) × In y (x ∷ xs) × (p y ≡ true)
      go ih true is k = (x, inl refl, is)
      go ih false is k = let r = ih k in (r.0, inr r.1, r.2)

  -- also after a place is set
  pub any_set : (xs : List A) (i : ℕ) (x y : A) → slice_get xs i ≡ Some x → (p x ≡ true → p y ≡ true) → list_any p xs ≡ true → list_any p (slice_set xs i y) ≡ true
  any_set [] i x y is up h = h
  any_set (z ∷ xs) zero x y is up h =
      ⊎_elim (λ (e : p z ≡ true). or_left (p y) (list_any p xs) (up (ap p (sym (some_is z x is)) ∙ e))) (λ e. or_right (p y) (list_any p xs) e) (or_case (p z) (list_any p xs) h)
  any_set (z ∷ xs) (suc i) x y is up h =
      ⊎_elim (λ (e : p z ≡ true). or_left (p z) (list_any p (slice_set xs i y)) e) (λ e. or_right (p z) (list_any p (slice_set xs i y)) (any_set xs i x y is up e)) (or_case (p z) (list_any p xs) h)

pub any_map : {A B : Type 0} (p : B → Bool) (f : A → B) (xs : List A) → list_any p (map f xs) ≡ list_any (λ x. p (f x)) xs
any_map p f [] = refl
any_map p f (x ∷ xs) = ap (λ b. p (f x) || b) (any_map p f xs)

pub map_in : {A B : Type 0} (f : A → B) (x : A) (xs : List A) → In x xs → In (f x) (map f xs)
map_in f x [] i = absurd i
map_in f x (y ∷ ys) i = ⊎_elim (λ e. inl (ap f e)) (λ j. inr (map_in f x ys j)) i
