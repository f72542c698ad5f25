-- Several lives of a store: each begins with logs that say what those say that the one before left, and with nothing else.
use Rattle.std.specs.Prelude.{◌≡◌, ℕ, List, [], ◌∷◌, map, IsTrue}
use Rattle.std.specs.Ordering.{nat_cmp}
use Rattle.rc_ids.specs.Tables.{In, member}
use Rattle.rc_ids.specs.Cluster.{Layout}
use Rattle.rc_ids.specs.declared.names.Outcome.TheVariants.{Commit as Committed}
use Rattle.rc_body.specs.declared.decision.Decision.{Decision}
use Rattle.rc_body.specs.declared.entry.Entry.{Entry}
use Rattle.rc_record.specs.CoordState.{new_durable as new_coord_durable}
use Rattle.rc_record.specs.ShardState.{new_durable as new_shard_durable}
use Rattle.rc_record.specs.declared.record.Record.{Record}
use Rattle.rc_record.specs.declared.record.Record.TheVariants.{Accepted}
use Rattle.rc_protocol.specs.Nodes.{CoordNode, ShardNode, coord_replayed, shard_replayed, coord_started, shard_started, with_log}
use Rattle.rc_runs.specs.Votes.{is_listed}
use Rattle.rc_runs.specs.World.{World, Start, started_world, new_world}
use Rattle.rc_runs.specs.Refusals.{Happening, run}
use Rattle.rc_claims.specs.Outcomes.{Chosen, IsCommitted, is_named}

-- what the logs of v say: the transactions that they name, and those whose commit they choose, each with the body of its votes
pub record IsStartOf (v : World) (start : Start) : Type 0 where
  pub named : (t : ℕ) → IsTrue (is_named v.parties t) → IsTrue (member nat_cmp start.named t)
  pub all : (t : ℕ) → Chosen v Committed t → IsTrue (is_listed start.committed t)
  pub chosen : (t : ℕ) (body : List Entry) → In (t, body) start.committed → IsCommitted v t body

-- LOGS THAT SAY THE SAME: they have one replay, name the same transactions, and hold the same votes. Which records else they hold, and in
-- which order, is free
abbrev pub SameMembers : {A : Type 0} → List A → List A → Type 0
SameMembers {A} xs ys = (x : A) → (In x xs → In x ys) × (In x ys → In x xs)

abbrev pub SameVotes : List Record → List Record → Type 0
SameVotes rs qs = (t b : ℕ) (o : Decision) → (In (Accepted t b o) rs → In (Accepted t b o) qs) × (In (Accepted t b o) qs → In (Accepted t b o) rs)

pub record SameCoordLog (rs qs : List Record) : Type 0 where
  pub replay : coord_replayed new_coord_durable rs ≡ coord_replayed new_coord_durable qs
  pub named : SameMembers (with_log [] rs) (with_log [] qs)
  pub votes : SameVotes rs qs

pub record SameShardLog (rs qs : List Record) : Type 0 where
  pub replay : shard_replayed new_shard_durable rs ≡ shard_replayed new_shard_durable qs
  pub named : SameMembers (with_log [] rs) (with_log [] qs)

-- what stands in one place of two lists of one length is so related
abbrev pub Pairwise : {A B : Type 0} → (A → B → Type 0) → List A → List B → Type 0
Pairwise R [] [] = Unit {0}
Pairwise R (x ∷ xs) (y ∷ ys) = R x y × Pairwise R xs ys
Pairwise R _ _ = ⊥

-- the logs of coordinators and of shard servers, in the places of their nodes, say what those of v say
pub record SayWhat (v : World) (coords shards : List (List Record)) : Type 0 where
  pub of_coords : Pairwise (λ (x : CoordNode) (log : List Record). SameCoordLog x.log log) v.parties.coords coords
  pub of_shards : Pairwise (λ (x : ShardNode) (log : List Record). SameShardLog x.log log) v.parties.shards shards

-- nodes start from these logs
abbrev pub reopened_from : Layout → Start → List (List Record) → List (List Record) → World
reopened_from c start coords shards = started_world c start (map coord_started coords) (map shard_started shards)

-- w comes at the end of a run that began in a new world, or with logs that say what those say that the last of these worlds left, which so
-- came before it
pub data IsLife (c : Layout) : List World → World → Type 0 where
  First : (hs : List Happening) → IsLife c [] (run (new_world c) hs)
  Next : (earlier : List World) (v : World) (start : Start) (coords shards : List (List Record)) (hs : List Happening) → IsLife c earlier v → IsStartOf v start → SayWhat v coords shards
      → IsLife c (v ∷ earlier) (run (reopened_from c start coords shards) hs)
