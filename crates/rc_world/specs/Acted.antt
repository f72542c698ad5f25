-- What an event makes of the nodes of one kind, on their hosts.
use Rattle.std.specs.Prelude.{◌≡◌, List}
use Rattle.rc_ids.specs.declared.names.NodeId.{NodeId}
use Rattle.rc_ids.specs.declared.names.Party.TheVariants.{Node}
use Rattle.rc_msg.specs.Outboxes.{Outbox, new_outbox}
use Rattle.rc_msg.specs.Posts.{posted_all}
use Rattle.rc_report.specs.declared.line.Line.{Line}
use Rattle.rc_runs.specs.declared.event.Event.{Event}
use Rattle.rc_protocol.specs.Messages.{Posts}
use Rattle.rc_protocol.specs.Nodes.{ShardNode}
use Rattle.rc_runs.specs.World.{Parties}
use Rattle.rc_runs.specs.Devices.{Device}
use Rattle.rc_runs.specs.Session.{Session}
use Rattle.rc_host.specs.Hosts.{Sight}
use Rattle.rc_host.specs.declared.host.Host.{Host}
use Rattle.rc_begin.specs.Places.{AreAt}
use Rattle.rc_begin.specs.Hosts.{Runs, IsShard}
use Rattle.rc_world.specs.Steps.{EventActed}

-- the parties with these shard servers
abbrev pub with_shards : Parties → List ShardNode → Parties
with_shards p shards = record p { shards = shards }

-- a shard server took part in the event, or nobody did
pub record ShardsActed {S J D : Type 0} (s : Sight S J D) (r : Runs) (z : Session) (e : Event) (node : NodeId) (new : List (Host S J D)) (out : Outbox) (own : List Line) : Type 0 where
  pub shards : List ShardNode
  pub devices : List Device
  pub sends : Posts
  pub acted : EventActed z e (with_shards z.world.parties shards) z.coords devices sends own
  pub hosts : AreAt (IsShard s r) new shards devices
  pub posted : out ≡ posted_all (new_outbox (Node node)) sends
