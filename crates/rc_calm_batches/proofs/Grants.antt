-- Grants of one row from the first datacentres in order, and the client that takes them.
use Rattle.std.proofs.Common.{◌≡◌, ℕ, zero, suc, ◌<◌, List, [], ◌∷◌, ◌++◌, refl, sym, ap, ◌∙◌, subst, arith, false, Option, ◌⊎◌, inl, inr, ⊎_elim}
use Rattle.std.specs.Prelude.{nat_lt}
use Rattle.std.specs.Ordering.{nat_cmp, match_ordering}
use Rattle.std.specs.declared.cmp.Ordering.{Ordering}
use Rattle.std.specs.declared.cmp.Ordering.TheVariants.{Less, Equal, Greater}
use Rattle.std.specs.Cmp.{nat_cmp_is}
use Rattle.std.proofs.lemmas.Bool.{le-ltb}
use Rattle.rc_ids.specs.Tables.{In, up_to, added, member}
use Rattle.rc_protocol.specs.Client.{Grant, granted_by, best_grant}
use Rattle.rc_calm_batches.proofs.Passes.{each}

-- NUMBERS IN ORDER
pub greater : (a b : ℕ) → b < a → nat_cmp a b ≡ Greater
greater a b h = sym (nat_cmp_is a b Greater h)

pub less : (a b : ℕ) → a < b → nat_cmp a b ≡ Less
less a b h = sym (nat_cmp_is a b Less h)

abbrev pub Below : ℕ → List ℕ → Type 0
Below k xs = (y : ℕ) → In y xs → y < k

pub added_last : (xs : List ℕ) (k : ℕ) → Below k xs → added nat_cmp xs k ≡ xs ++ k ∷ []
added_last [] k h = refl
added_last (x ∷ xs) k h = let g = greater k x (h x (inl refl)) in let more = added_last xs k (λ y i. h y (inr i)) in rw (g, more)

pub not_member : (xs : List ℕ) (k : ℕ) → Below k xs → member nat_cmp xs k ≡ false
not_member [] k h = refl
not_member (x ∷ xs) k h = let g = greater k x (h x (inl refl)) in let more = not_member xs k (λ y i. h y (inr i)) in rw (g, more)

pub in_end : {A : Type 0} (x y : A) (xs : List A) → In x (xs ++ y ∷ []) → In x xs ⊎ (y ≡ x)
in_end x y [] (inl e) = inr e
in_end x y [] (inr i) = absurd i
in_end x y (z ∷ xs) (inl e) = inl (inl e)
in_end x y (z ∷ xs) (inr i) = ⊎_elim (λ j. inl (inr j)) (λ e. inr e) (in_end x y xs i)

pub up_below : (n : ℕ) → Below (suc n) (up_to n)
up_below zero y i = absurd i
up_below (suc n) y i = ⊎_elim (λ j. let h = up_below n y j in omega (arith, h)) (λ (e : suc n ≡ y). omega (arith, e)) (in_end y (suc n) (up_to n) i)

-- one more datacentre, in order
pub added_up : (n : ℕ) → added nat_cmp (up_to n) (suc n) ≡ up_to (suc n)
added_up n = added_last (up_to n) (suc n) (up_below n)

before_last : (ys : List ℕ) (k m : ℕ) → m < k → added nat_cmp (ys ++ k ∷ []) m ≡ added nat_cmp ys m ++ k ∷ []
before_last [] k m h = let l = less m k h in rw l
before_last (y ∷ ys) k m h = go (nat_cmp m y) (before_last ys k m h)
  where
    go : (o : Ordering) → added nat_cmp (ys ++ k ∷ []) m ≡ added nat_cmp ys m ++ k ∷ []
        → match_ordering o (m ∷ y ∷ (ys ++ k ∷ [])) (y ∷ (ys ++ k ∷ [])) (y ∷ added nat_cmp (ys ++ k ∷ []) m) ≡ match_ordering o (m ∷ y ∷ ys) (y ∷ ys) (y ∷ added nat_cmp ys m) ++ k ∷ []
    go Less e = refl
    go Equal e = refl
    go Greater e = ap (λ (z : List ℕ). y ∷ z) e

-- GRANTS
granted_end : (gs : List Grant) (g : Grant) → ((x : Grant) → In x gs → x.dc < g.dc) → granted_by (gs ++ g ∷ []) ≡ granted_by gs ++ g.dc ∷ []
granted_end [] g h = refl
granted_end (x ∷ gs) g h = ap (λ (z : List ℕ). added nat_cmp z x.dc) (granted_end gs g (λ y i. h y (inr i))) ∙ before_last (granted_by gs) g.dc x.dc (h x (inl refl))

module _ (version : ℕ) (value : Option (List ℕ)) where
  abbrev pub grant : ℕ → Grant
  grant d = record { dc = d; version = version; value = value }

  abbrev pub grants : ℕ → List Grant
  grants n = each n (λ d. grant d ∷ [])

  grants_low : (n : ℕ) (x : Grant) → In x (grants n) → (x.dc < suc n) × (x.version ≡ version) × (x.value ≡ value)
  grants_low zero x i = absurd i
  grants_low (suc n) x i = ⊎_elim (λ j. let h = grants_low n x j in let k = h.0 in (omega (arith, k), h.1, h.2))
      (λ (e : grant (suc n) ≡ x). subst (λ (z : Grant). (z.dc < suc (suc n)) × (z.version ≡ version) × (z.value ≡ value)) e (omega arith, refl, refl)) (in_end x (grant (suc n)) (grants n) i)

  pub granted_up : (n : ℕ) → granted_by (grants n) ≡ up_to n
  granted_up zero = refl
  granted_up (suc n) = granted_end (grants n) (grant (suc n)) (λ x i. (grants_low n x i).0) ∙ ap (λ (z : List ℕ). z ++ suc n ∷ []) (granted_up n)

  best_same : (gs : List Grant) (g : Grant) → ((x : Grant) → In x (g ∷ gs) → (x.version ≡ version) × (x.value ≡ value)) → best_grant (g ∷ gs) ≡ (version, value)
  best_same [] g h = let z = h g (inl refl) in let a = z.0 in let b = z.1 in let k : nat_lt version 0 ≡ false = le-ltb version 0 (omega arith) in rw (a, k, b)
  best_same (y ∷ gs) g h =
      let z = h g (inl refl) in let a = z.0 in let b = z.1 in
      let more = best_same gs y (λ x i. h x (inr i)) in
      let k : nat_lt version version ≡ false = le-ltb version version (omega arith) in rw (more, a, k, b)

  pub best_up : (n : ℕ) → best_grant (grants (suc n)) ≡ (version, value)
  best_up n = go (grants (suc n)) (λ x i. let z = grants_low (suc n) x i in (z.1, z.2)) (some n)
    where
      go : (gs : List Grant) → ((x : Grant) → In x gs → (x.version ≡ version) × (x.value ≡ value)) → (gs ≡ [] → ⊥) → best_grant gs ≡ (version, value)
      go [] h n = absurd (n refl)
      go (g ∷ gs) h n = best_same gs g h

      some : (n : ℕ) → grants (suc n) ≡ [] → ⊥
      some n e = ends (grants n) (grant (suc n)) e
        where
          ends : (xs : List Grant) (x : Grant) → xs ++ x ∷ [] ≡ [] → ⊥
          ends [] x e = cc
          ends (y ∷ xs) x e = cc
