-- Shards by datacentre and number: what is found after one of them changed.
use Rattle.std.proofs.Common.{◌≡◌, ℕ, zero, suc, ◌+◌, ◌-◌, ◌*◌, ◌≤◌, ◌<◌, List, [], ◌∷◌, refl, sym, ap, ◌∙◌, arith, Some, ◌⊎◌, inl, inr, ⊎_elim}
use Rattle.std.specs.Prelude.{slice_get, slice_set}
use Rattle.rc_ids.specs.Cluster.{Layout}
use Rattle.rc_protocol.specs.Nodes.{shard_index}

pub get_set_same : {X : Type 0} (xs : List X) (i : ℕ) (x y : X) → slice_get xs i ≡ Some x → slice_get (slice_set xs i y) i ≡ Some y
get_set_same [] i x y h = absurd (cc)
get_set_same (z ∷ xs) zero x y h = refl
get_set_same (z ∷ xs) (suc i) x y h = get_set_same xs i x y h

pub get_set_other : {X : Type 0} (xs : List X) (i j : ℕ) (y : X) → (i ≡ j → ⊥) → slice_get (slice_set xs i y) j ≡ slice_get xs j
get_set_other [] i j y h = refl
get_set_other (z ∷ xs) zero zero y h = absurd (h refl)
get_set_other (z ∷ xs) zero (suc j) y h = refl
get_set_other (z ∷ xs) (suc i) zero y h = refl
get_set_other (z ∷ xs) (suc i) (suc j) y h = get_set_other xs i j y (λ e. h (ap suc e))

-- INDICES
more : (a k s : ℕ) → (a + suc k) * s ≡ a * s + (s + k * s)
more a k s = grind (arith)

below : (a b r q s : ℕ) → a < b → r < s → a * s + r ≡ b * s + q → ⊥
below a b r q s h i e =
    let k : b ≡ a + suc (b - a - 1) = omega (arith, h) in
    let z : b * s ≡ a * s + (s + (b - a - 1) * s) = ap (λ (x : ℕ). x * s) k ∙ more a (b - a - 1) s in
    let x : a * s + r ≡ a * s + (s + (b - a - 1) * s) + q = e ∙ ap (λ (y : ℕ). y + q) z in
    omega (arith, x, i)

pub compare : (a b : ℕ) → (a < b) ⊎ ((a ≡ b) ⊎ (b < a))
compare zero zero = inr (inl refl)
compare zero (suc b) = inl (omega arith)
compare (suc a) zero = inr (inr (omega arith))
compare (suc a) (suc b) = ⊎_elim (λ h. inl (omega (arith, h))) (λ k. ⊎_elim (λ e. inr (inl (ap suc e))) (λ h. inr (inr (omega (arith, h)))) k) (compare a b)

pub index_same : (c : Layout) (d e r q : ℕ) → 1 ≤ d → 1 ≤ e → 1 ≤ r → r ≤ c.shards → 1 ≤ q → q ≤ c.shards → shard_index c d r ≡ shard_index c e q → (d ≡ e) × (r ≡ q)
index_same c d e r q d1 e1 r1 rs q1 qs h =
    ⊎_elim (λ k. absurd (below (d - 1) (e - 1) (r - 1) (q - 1) c.shards k (omega (arith, r1, rs)) h))
    (λ x. ⊎_elim
    (λ k. let z : (d - 1) * c.shards ≡ (e - 1) * c.shards = ap (λ (y : ℕ). y * c.shards) k in (omega (arith, k, d1, e1), omega (arith, z, h, r1, q1)))
    (λ k. absurd (below (e - 1) (d - 1) (q - 1) (r - 1) c.shards k (omega (arith, q1, qs)) (sym h))) x) (compare (d - 1) (e - 1))
