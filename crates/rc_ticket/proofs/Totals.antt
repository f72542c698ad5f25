-- Totals over all views.
use Rattle.std.proofs.Common.{◌≡◌, ℕ, zero, suc, ◌+◌, ◌≤◌, ◌≢◌, ◌==◌, Bool, true, false, List, [], ◌∷◌, ◌++◌, length, set, refl, ap, sym, subst, ⊎_elim, arith, eq-eqb, ne_eqb}
use mathlib.Core.Option.{some, some-ne-none, some-injective}
use lib.ListN.{get_elem?}
use Rattle.atomic_table.proofs.Lists.{at_set, at_snoc}
use Rattle.rc_ticket.specs.declared.rule.Card.{Card}
use Rattle.rc_ticket.specs.Cards.{total, one_if, times, cards_of}

module _ {A : Type 0} where
  pub total_changed : (f : A → ℕ) (xs : List A) (i : ℕ) (v w : A) → get_elem? xs i ≡ some v → total f (set xs i w) + f v ≡ total f xs + f w
  total_changed f [] i v w at = absurd (some-ne-none v (sym at))
  total_changed f (x ∷ xs) zero v w at = let e : f x ≡ f v = ap f (some-injective x v at) in omega arith
  total_changed f (x ∷ xs) (suc i) v w at = let e = total_changed f xs i v w at in omega arith

  pub total_has : (f : A → ℕ) (xs : List A) (i : ℕ) (v : A) → get_elem? xs i ≡ some v → f v ≤ total f xs
  total_has f [] i v at = absurd (some-ne-none v (sym at))
  total_has f (x ∷ xs) zero v at = let e : f x ≡ f v = ap f (some-injective x v at) in omega arith
  total_has f (x ∷ xs) (suc i) v at = let e = total_has f xs i v at in omega arith

  pub total_has_both : (f : A → ℕ) (xs : List A) (i j : ℕ) (v w : A) → i ≢ j → get_elem? xs i ≡ some v → get_elem? xs j ≡ some w → f v + f w ≤ total f xs
  total_has_both f [] i j v w ne at to = absurd (some-ne-none v (sym at))
  total_has_both f (x ∷ xs) zero zero v w ne at to = absurd (ne refl)
  total_has_both f (x ∷ xs) zero (suc j) v w ne at to = let e : f x ≡ f v = ap f (some-injective x v at) in let o = total_has f xs j w to in omega arith
  total_has_both f (x ∷ xs) (suc i) zero v w ne at to = let e : f x ≡ f w = ap f (some-injective x w to) in let o = total_has f xs i v at in omega arith
  total_has_both f (x ∷ xs) (suc i) (suc j) v w ne at to = let o = total_has_both f xs i j v w (λ e. ne (ap suc e)) at to in omega arith

  pub total_least : (f g : A → ℕ) (xs : List A) → ((j : ℕ) (u : A) → get_elem? xs j ≡ some u → f u ≤ g u) → total f xs ≤ total g xs
  total_least f g [] le = omega arith
  total_least f g (x ∷ xs) le = let a = le 0 x refl in let b = total_least f g xs (λ j u at. le (suc j) u at) in omega arith

  pub total_gap : (f g : A → ℕ) (xs : List A) (i : ℕ) (v : A) → ((j : ℕ) (u : A) → get_elem? xs j ≡ some u → f u ≤ g u) → get_elem? xs i ≡ some v → total f xs + g v ≤ total g xs + f v
  total_gap f g [] i v le at = absurd (some-ne-none v (sym at))
  total_gap f g (x ∷ xs) zero v le at =
      let a : f x ≡ f v = ap f (some-injective x v at) in
      let b : g x ≡ g v = ap g (some-injective x v at) in
      let c = total_least f g xs (λ j u to. le (suc j) u to) in
      omega arith
  total_gap f g (x ∷ xs) (suc i) v le at =
      let a = le 0 x refl in
      let b = total_gap f g xs i v (λ j u to. le (suc j) u to) at in
      omega arith

  pub total_joined : (f : A → ℕ) (xs ys : List A) → total f (xs ++ ys) ≡ total f xs + total f ys
  total_joined f [] ys = omega arith
  total_joined f (x ∷ xs) ys = let e = total_joined f xs ys in omega arith

  pub each_changed : (P : A → Type 0) (xs : List A) (i : ℕ) (w : A) → ((j : ℕ) (u : A) → j ≢ i → get_elem? xs j ≡ some u → P u) → P w → (j : ℕ) (u : A) → get_elem? (set xs i w) j ≡ some u → P u
  each_changed P xs i w others mine j u at =
      ⊎_elim
      (λ (x : (j ≡ i) × (w ≡ u)). subst P x.1 mine)
      (λ (x : (j ≢ i) × (get_elem? xs j ≡ some u)). others j u x.0 x.1)
      (at_set xs i j w u at)

  pub each_added : (P : A → Type 0) (xs : List A) (w : A) → ((j : ℕ) (u : A) → get_elem? xs j ≡ some u → P u) → P w → (j : ℕ) (u : A) → get_elem? (xs ++ w ∷ []) j ≡ some u → P u
  each_added P xs w others mine j u at =
      ⊎_elim
      (λ (x : get_elem? xs j ≡ some u). others j u x)
      (λ (x : w ≡ u). subst P x mine)
      (at_snoc xs w u j at)

pub one_same : (a b : ℕ) → a ≡ b → one_if (a == b) ≡ 1
one_same a b e = ap one_if (eq-eqb a b e)

pub one_other : (a b : ℕ) → a ≢ b → one_if (a == b) ≡ 0
one_other a b ne = ap one_if (ne_eqb a b ne)

pub one_most : (b : Bool) → one_if b ≤ 1
one_most true = omega arith
one_most false = omega arith

pub times_most : (t : ℕ) (xs : List ℕ) → times t xs ≤ length xs
times_most t [] = omega arith
times_most t (x ∷ xs) = let a = one_most (x == t) in let b = times_most t xs in omega arith

pub cards_most : {X : Type 0} (seat : ℕ) (cards : List (Card X)) → cards_of seat cards ≤ length cards
cards_most seat [] = omega arith
cards_most seat (c ∷ cards) = let a = one_most (c.seat == seat) in let b = cards_most seat cards in omega arith
