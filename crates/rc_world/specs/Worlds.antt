-- A world on its hosts, as the session of a run.
use Rattle.std.specs.Prelude.{◌≡◌, ◌≢◌, ℕ, ◌*◌, ◌≤◌, List, [], length, None}
use Rattle.rc_ids.specs.Cluster.{Layout}
use Rattle.rc_ids.specs.declared.names.Party.{Party}
use Rattle.rc_ids.specs.declared.sends.Letter.{Letter}
use Rattle.rc_net.specs.Network.{Network}
use Rattle.rc_report.specs.declared.line.Line.{Line}
use Rattle.rc_runs.specs.declared.event.Event.{Event}
use Rattle.rc_protocol.specs.Messages.{Posts}
use Rattle.rc_runs.specs.World.{World, Parties, actor}
use Rattle.rc_runs.specs.Refusals.{wrong}
use Rattle.rc_runs.specs.Devices.{Device}
use Rattle.rc_runs.specs.Session.{Session}
use Rattle.rc_host.specs.declared.host.Host.{Host}
use Rattle.rc_grammar.specs.Worlds.{HasWorld}
use Rattle.rc_order.specs.Orders.{Order}
use Rattle.rc_order.specs.Counts.{IsOrderOf}
use Rattle.rc_world.specs.Clients.{Roster, IsRoster}
use Rattle.rc_begin.specs.Hosts.{Views, Runs, HostsAre, CoordsAreTold, ShardsAreTold}
use Rattle.rc_world.specs.Mail.{IsMail, letters_of}
use Rattle.rc_world.specs.Steps.{EventActed, Stepped, early_limit}

-- all that a world keeps
pub record Parts (C S : Type 0) : Type 0 where
  pub cluster : Layout
  pub coords : List C
  pub shards : List S
  pub roster : Roster
  pub order : Order
  pub net : Network
  pub events : ℕ
  pub deliveries : ℕ

-- its nodes and clients are these parties, on these disks
pub record AreParties {C S J D : Type 0} (v : Views C S J D) (r : Runs) (w : Parts (Host C J D) (Host S J D)) (p : Parties) (coords shards : List Device) : Type 0 where
  pub layout : p.layout ≡ r.cluster
  pub cluster : w.cluster ≡ r.cluster
  pub of_coords : length w.coords ≡ r.cluster.dcs
  pub of_shards : length w.shards ≡ r.cluster.dcs * r.cluster.shards
  pub hosts : HostsAre v r w.coords w.shards p coords shards
  pub roster : IsRoster w.roster p
  pub order : IsOrderOf p.layout p.coords p.start.committed p.committed w.order

-- what is sent and counted, beside the parties
pub record IsCarried {C S : Type 0} (w : Parts C S) (z : World) : Type 0 where
  pub mail : IsMail w.net z
  pub events : w.events ≡ z.events
  pub deliveries : w.deliveries ≡ length z.delivered
  pub few : length z.delivered ≤ z.events
  pub grammar : HasWorld z

-- the world is the session
pub record IsWorld {C S J D : Type 0} (v : Views C S J D) (r : Runs) (w : Parts (Host C J D) (Host S J D)) (z : Session) : Type 0 where
  pub parties : AreParties v r w z.world.parties z.coords z.shards
  pub carried : IsCarried w z.world

-- parties and disks did their part in the event, and these letters are to be sent
pub record HasActed {C S J D : Type 0} (v : Views C S J D) (r : Runs) (z : Session) (e : Event) (new : Parts (Host C J D) (Host S J D)) (from : Party) (letters : List Letter) (own : List Line) : Type 0 where
  pub named : wrong z.world e ≡ None
  pub early : early_limit z.world e ≡ None
  pub parties : Parties
  pub coords : List Device
  pub shards : List Device
  pub sends : Posts
  pub acted : EventActed z e parties coords shards sends own
  pub are : AreParties v r new parties coords shards
  pub actor_is : sends ≢ [] → from ≡ actor z.world.sent e
  pub posted : letters ≡ letters_of from sends

-- the event happened, and the world is the session after it
pub record HasStepped {C S J D : Type 0} (v : Views C S J D) (r : Runs) (z : Session) (e : Event) (new : Parts (Host C J D) (Host S J D)) (own : List Line) : Type 0 where
  pub after : Session
  pub stepped : Stepped z e after own
  pub is : IsWorld v r new after

-- no part but the parties changed
pub record KeepsCarried {C S : Type 0} (old new : Parts C S) : Type 0 where
  pub cluster : new.cluster ≡ old.cluster
  pub net : new.net ≡ old.net
  pub events : new.events ≡ old.events
  pub deliveries : new.deliveries ≡ old.deliveries

-- no party changed
pub record KeepsParties {C S : Type 0} (old new : Parts C S) : Type 0 where
  pub cluster : new.cluster ≡ old.cluster
  pub coords : new.coords ≡ old.coords
  pub shards : new.shards ≡ old.shards
  pub roster : new.roster ≡ old.roster
  pub order : new.order ≡ old.order

-- what the disks of all nodes tell now is told at the end still
pub record AreTold {C S J D : Type 0} (v : Views C S J D) (r : Runs) (w : Parts (Host C J D) (Host S J D)) : Type 0 where
  pub coords : CoordsAreTold v.coords r w.coords
  pub shards : ShardsAreTold v.shards r w.shards
