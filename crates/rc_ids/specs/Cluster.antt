-- Clusters: their datacentres, shards, split keys and weights.
use Rattle.std.specs.Prelude.{ℕ, suc, ◌+◌, ◌-◌, ◌*◌, ◌%◌, ◌^◌, ◌==◌, nat_le, nat_lt, Bool, true, cond, ◌&&◌, ◌||◌, IsTrue, List, [], ◌∷◌, length, sum, replicate, Option, Some, None}
use Rattle.std.specs.List.{list_all}
use Rattle.std.specs.Ordering.{nat_cmp, is_lt}
use Rattle.rc_ids.specs.declared.fault.ClusterFault.{ClusterFault}
use Rattle.rc_ids.specs.declared.fault.ClusterFault.TheVariants.{BadDcs, BadShards, BadSplits, BadWeights}
use Rattle.rc_ids.specs.Tables.{member, up_to}
use Rattle.rc_ids.specs.Texts.{is_key_byte, key_cmp}

-- how many datacentres and shards a cluster has, its split keys, and the weight of each datacentre
pub record Layout : Type 0 where
  pub dcs : ℕ
  pub shards : ℕ
  pub splits : List (List ℕ)
  pub weights : List ℕ

-- the number of datacentres is 1, 3, 5 or 7
abbrev pub is_dc_count : ℕ → Bool
is_dc_count n = (n == 1) || (n == 3) || (n == 5) || (n == 7)

abbrev pub is_shard_count : ℕ → Bool
is_shard_count n = nat_le 1 n && nat_le n 8

abbrev pub is_key : List ℕ → Bool
is_key bytes = nat_le 1 (length bytes) && nat_le (length bytes) 64 && list_all is_key_byte bytes

-- each key is above the one before, the first above the given one
abbrev pub rise_after : List ℕ → List (List ℕ) → Bool
rise_after k [] = true
rise_after k (l ∷ ls) = is_lt (key_cmp k l) && rise_after l ls

-- each key is above the one before
abbrev pub rise : List (List ℕ) → Bool
rise [] = true
rise (k ∷ ks) = rise_after k ks

abbrev pub is_weight : ℕ → Bool
is_weight w = nat_le 1 w && nat_le w 9

-- one weight for each datacentre
abbrev pub are_weights : ℕ → List ℕ → Bool
are_weights dcs weights = (length weights == dcs) && list_all is_weight weights

-- one split key fewer than shards, and they rise
abbrev pub are_splits : ℕ → List (List ℕ) → Bool
are_splits shards splits = (suc (length splits) == shards) && rise splits

-- why there is no such cluster; None where there is one
abbrev pub cluster_fault : Layout → Option ClusterFault
cluster_fault c =
    cond (is_dc_count c.dcs)
    (cond (is_shard_count c.shards)
    (cond (are_splits c.shards c.splits)
    (cond (are_weights c.dcs c.weights) None (Some BadWeights))
    (Some BadSplits)) (Some BadShards)) (Some BadDcs)

-- what holds of every cluster
pub record IsLayout (c : Layout) : Type 0 where
  pub dcs : IsTrue (is_dc_count c.dcs)
  pub shards : IsTrue (is_shard_count c.shards)
  pub splits : IsTrue (are_splits c.shards c.splits)
  pub keys : IsTrue (list_all is_key c.splits)
  pub weights : IsTrue (are_weights c.dcs c.weights)

-- weight 1 for each of so many datacentres
abbrev pub equal_weights : ℕ → List ℕ
equal_weights dcs = replicate dcs 1

abbrev pub layout : ℕ → ℕ → List (List ℕ) → List ℕ → Layout
layout dcs shards splits weights = record { dcs = dcs; shards = shards; splits = splits; weights = weights }

-- the datacentres
abbrev pub all_dcs : Layout → List ℕ
all_dcs c = up_to c.dcs

abbrev pub is_dc : Layout → ℕ → Bool
is_dc c d = nat_le 1 d && nat_le d c.dcs

abbrev pub is_shard : Layout → ℕ → Bool
is_shard c s = nat_le 1 s && nat_le s c.shards

-- the weight of the set, where the first weight is that of datacentre d
abbrev pub weight_from : ℕ → List ℕ → List ℕ → ℕ
weight_from d [] set = 0
weight_from d (w ∷ ws) set = cond (member nat_cmp set d) w 0 + weight_from (suc d) ws set

-- the members weigh more than half of all
abbrev pub holds : List ℕ → List ℕ → Bool
holds weights set = nat_lt (sum weights) (2 * weight_from 1 weights set)

abbrev pub is_quorum : Layout → List ℕ → Bool
is_quorum c set = holds c.weights set

-- the home of a transaction
abbrev pub home : Layout → ℕ → ℕ
home c t = t % c.dcs + 1

-- whose a ballot from 1 on is
abbrev pub owner_of : Layout → ℕ → ℕ
owner_of c b = (b - 1) % c.dcs + 1

-- the least ballot of d above the given one
abbrev pub next_number : Layout → ℕ → ℕ → ℕ
next_number c d above = above + 1 + (d - 1 + (c.dcs - above % c.dcs)) % c.dcs

-- None where that would pass 2 ^ 31
abbrev pub next_ballot : Layout → ℕ → ℕ → Option ℕ
next_ballot c d above = cond (nat_le (next_number c d above) (2 ^ 31)) (Some (next_number c d above)) None

-- 1 plus the number of split keys that are not above the key
abbrev pub shard_from : List (List ℕ) → List ℕ → ℕ
shard_from [] k = 1
shard_from (p ∷ ps) k = cond (is_lt (key_cmp k p)) 0 1 + shard_from ps k

abbrev pub shard_of : Layout → List ℕ → ℕ
shard_of c k = shard_from c.splits k
