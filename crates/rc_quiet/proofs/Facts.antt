-- What the laws on every run give of a world that a run reached.
use Rattle.std.proofs.Common.{◌≡◌, ℕ, Some}
use Rattle.std.specs.Ordering.{nat_cmp}
use Rattle.rc_ids.specs.Tables.{In, found}
use Rattle.rc_ids.specs.Cluster.{Layout}
use Rattle.rc_protocol.specs.Client.{Client, Slot, slot_of}
use Rattle.rc_protocol.specs.Nodes.{CoordNode, ShardNode, shard_started}
use Rattle.rc_runs.specs.World.{Parties, coord_at, shard_at}
use Rattle.rc_agreement.proofs.Tables.{RisesFrom}
use Rattle.rc_agreement.proofs.Promises.{replayed}

pub record Facts (c : Layout) (w : Parties) : Type 0 where
  pub layout : w.layout ≡ c
  pub replays : (d : ℕ) (x : CoordNode) → coord_at w d ≡ Some x → x.durable ≡ replayed x.log
  pub shard_replays : (d sh : ℕ) (x : ShardNode) → shard_at w d sh ≡ Some x → (shard_started x.log).durable ≡ x.durable
  pub rises : (d sh : ℕ) (x : ShardNode) → shard_at w d sh ≡ Some x → RisesFrom 0 x.durable.parts
  pub apart : (u : ℕ) (x : Client) → found nat_cmp w.clients u ≡ Some x → (s : Slot) → In s x.slots → slot_of x.slots s.key ≡ Some s
