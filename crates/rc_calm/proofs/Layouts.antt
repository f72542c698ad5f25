-- What the layout of a world gives: the least quorum is one of its datacentres, and each key has one of its shards.
use Rattle.std.proofs.Common.{◌≡◌, ℕ, zero, suc, ◌+◌, ◌≤◌, ◌<◌, List, [], ◌∷◌, refl, sym, ◌∙◌, subst, arith, Bool, true, false, cond, ⊎_elim}
use Rattle.std.specs.Prelude.{if◌then◌else◌, length}
use Rattle.std.specs.Ordering.{is_lt}
use Rattle.rc_ids.specs.Tables.{up_to}
use Rattle.rc_ids.specs.Texts.{key_cmp}
use Rattle.rc_ids.specs.Cluster.{Layout, IsLayout, is_quorum, shard_from, shard_of}
use Rattle.rc_ids.proofs.QuorumFacts.{quorum_laws}
use Rattle.rc_ids.proofs.LayoutFacts.{dc_count_range, splits_count}
use Rattle.rc_claims.specs.Calm.{least_quorum, least_quorum_from}
use Rattle.rc_calm_batches.proofs.Indices.{compare}
use Rattle.rc_calm_batches.proofs.Quorums.{IsLeast}

-- where the first n are a quorum, the least one is found among them
pub least_within : (c : Layout) (more i n : ℕ) → is_quorum c (up_to n) ≡ true → i ≤ n → n ≤ i + more → IsLeast c i n (least_quorum_from c more i)
least_within c zero i n h lo hi =
    let e : n ≡ i = omega (arith, lo, hi) in
    record { enough = subst (λ (z : ℕ). is_quorum c (up_to z) ≡ true) e h; low = omega arith; high = lo; none = λ j a b. absurd (omega (arith, a, b)) }
least_within c (suc more) i n h lo hi = go (is_quorum c (up_to i)) refl (λ k. least_within c more (suc i) n h k (omega (arith, hi)))
  where
    go : (b : Bool) → is_quorum c (up_to i) ≡ b → (suc i ≤ n → IsLeast c (suc i) n (least_quorum_from c more (suc i))) → IsLeast c i n (if b then i else least_quorum_from c more (suc i))
    go true e r = record { enough = e; low = omega arith; high = lo; none = λ j a b. absurd (omega (arith, a, b)) }
    go false e r = ⊎_elim
        (λ (k : i < n).
        let z = r (omega (arith, k)) in
        record {
          enough = z.enough;
          low = let a = z.low in omega (arith, a);
          high = z.high;
          none = λ j a b. ⊎_elim (λ (g : i < j). z.none j (omega (arith, g)) b) (λ w. ⊎_elim (λ (g : i ≡ j). subst (λ (v : ℕ). is_quorum c (up_to v) ≡ false) g e) (λ (g : j < i). absurd (omega (arith, g, a))) w) (compare i j);
        })
        (λ w. ⊎_elim (λ (k : i ≡ n). absurd (let v : true ≡ false = sym (subst (λ (z : ℕ). is_quorum c (up_to z) ≡ true) (sym k) h) ∙ e in cc)) (λ (k : n < i). absurd (omega (arith, k, lo))) w) (compare i n)

pub least_is : (c : Layout) → 1 ≤ c.dcs → is_quorum c (up_to c.dcs) ≡ true → IsLeast c 1 c.dcs (least_quorum c)
least_is c h all = least_within c c.dcs 1 c.dcs all h (omega arith)

-- KEYS
shard_range : (ks : List (List ℕ)) (k : List ℕ) → (1 ≤ shard_from ks k) × (shard_from ks k ≤ suc (length ks))
shard_range [] k = (omega arith, omega arith)
shard_range (p ∷ ks) k = let h = shard_range ks k in go (is_lt (key_cmp k p)) h.0 h.1
  where
    go : (v : Bool) → 1 ≤ shard_from ks k → shard_from ks k ≤ suc (length ks) → (1 ≤ cond v 0 1 + shard_from ks k) × (cond v 0 1 + shard_from ks k ≤ suc (suc (length ks)))
    go true a b = (omega (arith, a), omega (arith, b))
    go false a b = (omega (arith, a), omega (arith, b))

pub key_shard : (c : Layout) → suc (length c.splits) ≡ c.shards → (k : List ℕ) → (1 ≤ shard_of c k) × (shard_of c k ≤ c.shards)
key_shard c e k = let h = shard_range c.splits k in let a = h.1 in (h.0, omega (arith, a, e))

-- A LAYOUT
pub layout_least : (c : Layout) → IsLayout c → IsLeast c 1 c.dcs (least_quorum c)
layout_least c h = least_is c (dc_count_range c.dcs h.dcs).0 (quorum_laws c h).all

pub layout_shard : (c : Layout) → IsLayout c → (k : List ℕ) → (1 ≤ shard_of c k) × (shard_of c k ≤ c.shards)
layout_shard c h k = key_shard c (splits_count c h).0 k
