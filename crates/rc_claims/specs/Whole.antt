-- Wholeness: a datacentre that applied part of a transaction keeps the rest, in the list of its coordinator, and its shards get it from there.
use Rattle.std.specs.Prelude.{◌≡◌, ℕ, ◌≤◌, ◌<◌, List, Some, ◌⊎◌, IsTrue}
use Rattle.std.specs.Ordering.{nat_cmp}
use Rattle.rc_ids.specs.Tables.{In, found, nth}
use Rattle.rc_ids.specs.declared.names.Outcome.TheVariants.{Commit as Committed}
use Rattle.rc_body.specs.Bodies.{touches}
use Rattle.rc_body.specs.Decisions.{outcome_of}
use Rattle.rc_body.specs.declared.entry.Entry.{Entry}
use Rattle.rc_body.specs.declared.decision.Decision.{Decision}
use Rattle.rc_body.specs.declared.decision.Decision.TheVariants.{Commit}
use Rattle.rc_protocol.specs.Nodes.{CoordNode, ShardNode}
use Rattle.rc_protocol.specs.Shard.{concerns}
use Rattle.rc_runs.specs.World.{World, coord_at, shard_at}
use Rattle.rc_claims.specs.Outcomes.{Chosen, all_committed}

-- the shard has applied t, or has not come to its place in the list
abbrev pub HasOrGets : ShardNode → ℕ → ℕ → Type 0
HasOrGets x t place = (found nat_cmp x.durable.finished t ≡ Some Committed) ⊎ (x.volatile.cursor ≤ place)

-- t is committed, stands with its body in the list of d, and each shard of d that it touches has applied it or gets it from there
pub record IsWhole (w : World) (d t : ℕ) : Type 0 where
  pub chosen : Chosen w Committed t
  pub coord : CoordNode
  pub is : coord_at w.parties d ≡ Some coord
  pub body : List Entry
  pub committed : In (t, body) (all_committed w)
  pub place : ℕ
  pub listed : nth coord.durable.outcomes place ≡ Some (t, Commit body)
  pub others : (sh : ℕ) (x : ShardNode) → shard_at w.parties d sh ≡ Some x → IsTrue (touches w.parties.layout body sh) → HasOrGets x t place

-- where t is applied at a shard of d
abbrev pub AppliedIsWhole : World → Type 0
AppliedIsWhole w = (d sh t : ℕ) (x : ShardNode) → shard_at w.parties d sh ≡ Some x → found nat_cmp x.durable.finished t ≡ Some Committed → IsWhole w d t

-- a shard has finished each entry below its catch-up place that concerns it
abbrev pub IsCaughtUp : World → Type 0
IsCaughtUp w = (d sh n t : ℕ) (y : CoordNode) (x : ShardNode) (o : Decision) →
    coord_at w.parties d ≡ Some y → shard_at w.parties d sh ≡ Some x → nth y.durable.outcomes n ≡ Some (t, o) → n < x.volatile.cursor →
    IsTrue (concerns w.parties.layout sh o) → found nat_cmp x.durable.finished t ≡ Some (outcome_of o)
