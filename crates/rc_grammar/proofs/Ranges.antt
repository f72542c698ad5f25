-- Numbers within their ranges: datacentres, shards, homes, owners and ballots of a layout.
use Rattle.std.proofs.Common.{◌≡◌, ℕ, suc, ◌+◌, ◌-◌, ◌%◌, ◌<◌, ◌≤◌, true, List, [], ◌∷◌, length, Option, Some, None, arith}
use Rattle.std.specs.Prelude.{max}
use Rattle.std.proofs.Math.Nat.{mod-lt}
use Rattle.std.specs.Ordering.{is_lt}
use Rattle.rc_ids.specs.Texts.{key_cmp}
use Rattle.rc_ids.specs.Cluster.{Layout, IsLayout, is_dc, is_shard, shard_from, shard_of, home, owner_of, next_number, next_ballot}
use Rattle.rc_ids.proofs.LayoutFacts.{dc_count_range, splits_count}
use Rattle.rc_fields.specs.Ranges.{IsDcNumber, IsShardNumber, IsBallotNumber}
use Rattle.rc_msg.specs.Spelling.{IsOwnedBallot}
use Rattle.rc_grammar.proofs.Lists.{on_cond, some_is, never}

module _ (c : Layout) (h : IsLayout c) where
  -- the numbers from 1 on to that of the datacentres, or of the shards
  pub dc_within : (d : ℕ) → 1 ≤ d → d ≤ c.dcs → IsDcNumber d
  dc_within d low high = let range = dc_count_range c.dcs h.dcs in (low, omega arith)

  pub shard_within : (sh : ℕ) → 1 ≤ sh → sh ≤ c.shards → IsShardNumber sh
  shard_within sh low high = let range = splits_count c h in (low, omega arith)

  pub is_dc_number : (d : ℕ) → is_dc c d ≡ true → IsDcNumber d
  is_dc_number d is = dc_within d (grind arith) (grind arith)

  pub is_shard_number : (sh : ℕ) → is_shard c sh ≡ true → IsShardNumber sh
  is_shard_number sh is = shard_within sh (grind arith) (grind arith)

  rest_is_dc : (n : ℕ) → IsDcNumber (n % c.dcs + 1)
  rest_is_dc n =
      let range = dc_count_range c.dcs h.dcs in
      let less : n % c.dcs < c.dcs = mod-lt n range.0 in
      dc_within (n % c.dcs + 1) (omega arith) (omega arith)

  pub home_is_dc : (t : ℕ) → IsDcNumber (home c t)
  home_is_dc t = rest_is_dc t

  pub owner_is_dc : (b : ℕ) → IsDcNumber (owner_of c b)
  owner_is_dc b = rest_is_dc (b - 1)

  pub key_shard : (k : List ℕ) → IsShardNumber (shard_of c k)
  key_shard k = let range = splits_count c h in let at = place c.splits k in (at.0, omega arith)
    where
      place : (ks : List (List ℕ)) (k : List ℕ) → (1 ≤ shard_from ks k) × (shard_from ks k ≤ suc (length ks))
      place [] k = (omega arith, omega arith)
      place (p ∷ ps) k =
          let rest = place ps k in
          on_cond (λ (n : ℕ). (1 ≤ n + shard_from ps k) × (n + shard_from ps k ≤ suc (suc (length ps)))) (is_lt (key_cmp k p)) 0 1
          (λ _. (omega arith, omega arith)) (λ _. (omega arith, omega arith))

-- the next ballot is one of a take-over
pub next_is_owned : (c : Layout) (d above b : ℕ) → next_ballot c d above ≡ Some b → IsOwnedBallot b
next_is_owned c d above b is =
    on_cond (λ (o : Option ℕ). o ≡ Some b → IsOwnedBallot b) _ (Some (next_number c d above)) None
    (λ few e. let same : next_number c d above ≡ b = some_is (next_number c d above) b e in (grind arith, grind (arith, few)))
    (λ _ e. never b e) is

pub max_is_ballot : (a b : ℕ) → IsBallotNumber a → IsBallotNumber b → IsBallotNumber (max a b)
max_is_ballot a b p q = omega arith
