-- The least quorum of the first datacentres, and grants and votes that come from them in order.
use Rattle.std.proofs.Common.{◌≡◌, ℕ, zero, suc, ◌+◌, ◌≤◌, ◌<◌, refl, ap, subst, arith, Bool, true, false, ◌⊎◌, inl, inr, ⊎_elim}
use Rattle.std.specs.Prelude.{if◌then◌else◌}
use Rattle.rc_ids.specs.Tables.{up_to}
use Rattle.rc_ids.specs.Cluster.{Layout, is_quorum}
use Rattle.rc_claims.specs.Calm.{least_quorum_from}

-- q is the least of i to n for which the first ones are a quorum
pub record IsLeast (c : Layout) (i n q : ℕ) : Type 0 where
  pub enough : is_quorum c (up_to q) ≡ true
  pub low : i ≤ q
  pub high : q ≤ n
  pub none : (j : ℕ) → i ≤ j → j < q → is_quorum c (up_to j) ≡ false

least_from : (c : Layout) (more i : ℕ) → is_quorum c (up_to (i + more)) ≡ true → IsLeast c i (i + more) (least_quorum_from c more i)
least_from c zero i h = let k : i + 0 ≡ i = omega arith in record { enough = subst (λ (z : ℕ). is_quorum c (up_to z) ≡ true) k h; low = omega arith; high = omega arith; none = λ j a b. absurd (omega (arith, a, b)) }
least_from c (suc more) i h = go (is_quorum c (up_to i)) refl (least_from c more (suc i) (let k : i + suc more ≡ suc i + more = omega arith in subst (λ (z : ℕ). is_quorum c (up_to z) ≡ true) k h))
  where
    go : (b : Bool) → is_quorum c (up_to i) ≡ b → IsLeast c (suc i) (suc i + more) (least_quorum_from c more (suc i)) → IsLeast c i (i + suc more) (if b then i else least_quorum_from c more (suc i))
    go true e r = record { enough = e; low = omega arith; high = omega arith; none = λ j a b. absurd (omega (arith, a, b)) }
    go false e r = record {
      enough = r.enough;
      low = let a = r.low in omega (arith, a);
      high = let a = r.high in omega (arith, a);
      none = λ j a b. ⊎_elim (λ (k : i < j). r.none j (omega (arith, k)) b) (λ (k : i ≡ j). subst (λ (z : ℕ). is_quorum c (up_to z) ≡ false) k e) (split i j a);
    }
      where
        split : (i j : ℕ) → i ≤ j → (i < j) ⊎ (i ≡ j)
        split zero zero h = inr refl
        split zero (suc j) h = inl (omega arith)
        split (suc i) zero h = absurd (omega (arith, h))
        split (suc i) (suc j) h = ⊎_elim (λ k. inl (omega (arith, k))) (λ e. inr (ap suc e)) (split i j (omega (arith, h)))
