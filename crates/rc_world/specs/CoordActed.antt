-- What an event makes of coordinators, on their hosts.
use Rattle.std.specs.Prelude.{◌≡◌, ℕ, List, Option, Some, slice_get, slice_set}
use Rattle.rc_ids.specs.declared.names.NodeId.{NodeId}
use Rattle.rc_ids.specs.declared.names.Party.TheVariants.{Node}
use Rattle.rc_msg.specs.Outboxes.{Outbox, new_outbox}
use Rattle.rc_msg.specs.Posts.{posted_all}
use Rattle.rc_record.specs.declared.record.Record.{Record}
use Rattle.rc_report.specs.declared.line.Line.{Line}
use Rattle.rc_runs.specs.declared.event.Event.{Event}
use Rattle.rc_protocol.specs.Messages.{Posts}
use Rattle.rc_protocol.specs.Nodes.{CoordNode, coord_index, logged}
use Rattle.rc_runs.specs.World.{with_coord}
use Rattle.rc_runs.specs.Devices.{Device}
use Rattle.rc_runs.specs.Session.{Session}
use Rattle.rc_host.specs.AnyNode.{AnyAct, NodeDurable}
use Rattle.rc_host.specs.Standing.{Standing}
use Rattle.rc_host.specs.Hosts.{Sight, Run}
use Rattle.rc_host.specs.declared.host.Host.{Host}
use Rattle.rc_host.specs.declared.host.Course.{Course}
use Rattle.rc_world.specs.declared.votes.Vote.{Vote}
use Rattle.rc_begin.specs.Places.{AreAt}
use Rattle.rc_begin.specs.Hosts.{Runs, IsCoord}
use Rattle.rc_world.specs.Steps.{EventActed}
use Rattle.rc_world.specs.Turns.{Turned}
use Rattle.rc_world.specs.Votes.{kept_by, vote_in}

-- the coordinator did its act or stopped inside it, and the vote is the one that this left in its log
pub record Voted {N J D : Type 0} (s : Sight N J D) (gives : List (List ℕ) → NodeDurable → Type 0) (run : Run) (new : Host N J D) (out : Outbox) (vote : Option Vote) (printed : List Line) (x : Standing) (d : Device) (act : AnyAct) : Type 0 where
  pub course : Course
  pub turned : Turned s gives run new out course printed x d act
  pub votes : vote ≡ vote_in (kept_by act.logs course)

-- a coordinator took part in the event, and has what it left behind its log; or nobody did: then it is as before and nothing is left
pub record CoordsActed {C J D : Type 0} (s : Sight C J D) (r : Runs) (z : Session) (e : Event) (dc : ℕ) (node : NodeId) (new : List (Host C J D)) (out : Outbox) (own : List Line) (vote : Option Vote) : Type 0 where
  pub before : CoordNode
  pub after : CoordNode
  pub left : Option Record
  pub devices : List Device
  pub sends : Posts
  pub stood : slice_get z.world.parties.coords (coord_index dc) ≡ Some before
  pub log : after.log ≡ logged before.log left
  pub acted : EventActed z e (with_coord z.world.parties dc after left) devices z.shards sends own
  pub hosts : AreAt (IsCoord s r) new (slice_set z.world.parties.coords (coord_index dc) after) devices
  pub posted : out ≡ posted_all (new_outbox (Node node)) sends
  pub votes : vote ≡ vote_in left
