-- Why a proposal is said to be refused.
use Rattle.std.specs.Prelude.{◌≡◌, ℕ, ◌<◌, List, Some}
use Rattle.rc_body.specs.declared.entry.Entry.{Entry}
use Rattle.rc_body.specs.declared.reason.Reason.{Reason}
use Rattle.rc_body.specs.declared.reason.Reason.TheVariants.{Locked, Lost, Stale, Promised}
use Rattle.rc_msg.specs.declared.msg.Msg.TheVariants.{Prepare, Prepared, Refused}
use Rattle.rc_report.specs.declared.line.Line.TheVariants.{Refused as RefusedLine}
use Rattle.rc_protocol.specs.Messages.{coordinator, shard_server, client_of}
use Rattle.rc_protocol.specs.Coordinator.{promise_of}
use Rattle.rc_protocol.specs.Shard.{test}
use Rattle.rc_protocol.specs.Nodes.{CoordNode, ShardNode}
use Rattle.rc_runs.specs.World.{World, coord_at, shard_at}
use Rattle.rc_runs.specs.Refusals.{Happening, run}
use Rattle.rc_causes.specs.Moments.{Moment, world_at, SendsNow, DeliversNow, PrintsNow}

-- a shard of d answered the prepare of t with this reason, and its test had given it: of locked, lost and stale the first that held
pub record IsTested (w : World) (hs : List Happening) (t d shard : ℕ) (reason : Reason) : Type 0 where
  pub moment : Moment hs
  pub node : ShardNode
  pub is : shard_at (world_at w hs moment).parties d shard ≡ Some node
  pub part : List Entry
  pub asked : DeliversNow (world_at w hs moment) moment.now (shard_server d shard) (Prepare t part)
  pub test : test node.durable node.volatile t part ≡ Some reason
  pub answers : SendsNow (world_at w hs moment) moment.now (record { from = shard_server d shard; to = coordinator d; msg = Prepared t shard (Some reason) })

-- a shard's reason came to the coordinator, and was given before
pub record CameFromShard (w : World) (hs : List Happening) (m : Moment hs) (t d : ℕ) (reason : Reason) : Type 0 where
  pub shard : ℕ
  pub comes : DeliversNow (world_at w hs m) m.now (coordinator d) (Prepared t shard (Some reason))
  pub tested : IsTested w m.before t d shard reason

-- why a coordinator refuses at ballot 0, as the happening begins: it promised this very ballot, which is above 0; or a shard gave the reason
abbrev pub IsWhy : (w : World) (hs : List Happening) → Moment hs → (t d : ℕ) → CoordNode → Reason → Type 0
IsWhy w hs m t d x (Promised b) = (promise_of x.durable.promises t ≡ b) × (0 < b)
IsWhy w hs m t d x (Locked k u) = CameFromShard w hs m t d (Locked k u)
IsWhy w hs m t d x (Lost k) = CameFromShard w hs m t d (Lost k)
IsWhy w hs m t d x (Stale k v) = CameFromShard w hs m t d (Stale k v)

-- the coordinator of d sent the refusal to t's client, for that reason
pub record WasRefused (w : World) (hs : List Happening) (t d : ℕ) (reason : Reason) : Type 0 where
  pub moment : Moment hs
  pub node : CoordNode
  pub is : coord_at (world_at w hs moment).parties d ≡ Some node
  pub sends : SendsNow (world_at w hs moment) moment.now (record { from = coordinator d; to = client_of t; msg = Refused t 0 d reason })
  pub why : IsWhy w hs moment t d node reason

-- a refusal that is printed was sent before, and for the reason that it names. Not each refusal that is sent is printed
abbrev pub RefusalsHaveCauses : World → List Happening → Happening → Type 0
RefusalsHaveCauses w before now = (t d : ℕ) (reason : Reason) → PrintsNow (run w before) now (RefusedLine t d reason) → WasRefused w before t d reason
