-- Gathers by the shards that they ask. A gather of the rows names those by its body, of which the vote needs no more.
use Rattle.std.specs.Prelude.{◌≡◌, ℕ, Bool, IsTrue, not, ◌&&◌, max, List, [], filter, None, Some, if◌then◌else◌}
use Rattle.std.specs.Ordering.{nat_cmp}
use Rattle.std.specs.List.{list_all}
use Rattle.rc_ids.specs.Tables.{member, added, found}
use Rattle.rc_ids.specs.Cluster.{Layout, is_shard}
use Rattle.rc_body.specs.Bodies.{touches, touched}
use Rattle.rc_body.specs.declared.entry.Entry.{Entry}
use Rattle.rc_protocol.specs.Coordinator.{GatherState, CoordVolatile, gather_at, has_all, with_yes}
use Rattle.rc_vote.specs.declared.gather.Gathered.{Gathered}
use Rattle.rc_vote.specs.declared.gather.Gathered.TheVariants.{Ignored, Waiting, Complete, Refused}

-- the shards that are asked, the ballot, and the shards that said yes
pub record ShardGather : Type 0 where
  pub touched : List ℕ
  pub ballot : ℕ
  pub yes : List ℕ

abbrev pub shard_gather : List ℕ → ℕ → List ℕ → ShardGather
shard_gather shards b said = record { touched = shards; ballot = b; yes = said }

-- the same gather by its shards
abbrev pub by_shards : Layout → GatherState → ShardGather
by_shards c g = shard_gather (touched c g.body) g.ballot g.yes

-- its ballot becomes the larger one
abbrev pub raised : ShardGather → ℕ → ShardGather
raised g b = shard_gather g.touched (max g.ballot b) g.yes

-- the shard says yes
abbrev pub with_shard : ShardGather → ℕ → ShardGather
with_shard g s = shard_gather g.touched g.ballot (added nat_cmp g.yes s)

-- each touched shard said yes
abbrev pub is_complete : ShardGather → Bool
is_complete g = list_all (member nat_cmp g.yes) g.touched

-- the touched shards that did not say yes
abbrev pub still_asked : ShardGather → List ℕ
still_asked g = filter (λ s. not (member nat_cmp g.yes s)) g.touched

-- the shard is touched and did not say yes
abbrev pub waits_for : ShardGather → ℕ → Bool
waits_for g s = member nat_cmp g.touched s && not (member nat_cmp g.yes s)

-- what an answer of a shard makes of the gather, and what is said of it
abbrev pub after_answer : ShardGather → ℕ → Bool → ShardGather
after_answer g s says_yes = if waits_for g s && says_yes then with_shard g s else g

abbrev pub gathered : ShardGather → ℕ → Bool → Gathered
gathered g s says_yes =
    if waits_for g s
    then (if says_yes then (if is_complete (with_shard g s) then Complete else Waiting) else Refused)
    else Ignored

-- a gather by its shards is the gather of the rows
pub record IsGather (c : Layout) : Type 0 where
  -- a new one is at its first ballot, and one that is there at the larger ballot
  pub made : (v : CoordVolatile) (t b : ℕ) (body : List Entry) → found nat_cmp v.gathers t ≡ None
      → by_shards c (gather_at v t b body) ≡ raised (shard_gather (touched c body) 0 []) b
  pub again : (v : CoordVolatile) (t b : ℕ) (body : List Entry) (g : GatherState) → found nat_cmp v.gathers t ≡ Some g
      → by_shards c (gather_at v t b body) ≡ raised (by_shards c g) b
  -- it has all where it is complete, and its shards say yes alike
  pub all : (g : GatherState) → has_all c g ≡ is_complete (by_shards c g)
  pub yes : (g : GatherState) (s : ℕ) → by_shards c (with_yes g s) ≡ with_shard (by_shards c g) s
  -- of the shards of the cluster the same are waited for, and asked
  pub waits : (g : GatherState) (s : ℕ) → IsTrue (is_shard c s)
      → (touches c g.body s && not (member nat_cmp g.yes s)) ≡ waits_for (by_shards c g) s
  pub asks : (g : GatherState) (s : ℕ) → IsTrue (is_shard c s)
      → (touches c g.body s && not (member nat_cmp g.yes s)) ≡ member nat_cmp (still_asked (by_shards c g)) s
