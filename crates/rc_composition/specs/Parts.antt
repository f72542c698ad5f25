-- What a party is and does by itself: from its own entries and the messages that it took alone.
use Rattle.std.specs.Prelude.{ℕ, Bool, false, List, [], ◌∷◌, ◌++◌, Option, Some, None, if◌then◌else◌}
use Rattle.std.specs.Ordering.{nat_cmp}
use Rattle.rc_ids.specs.Tables.{found, maybe}
use Rattle.rc_ids.specs.Cluster.{Layout}
use Rattle.rc_ids.specs.declared.names.NodeId.TheVariants.{Coord, Shard}
use Rattle.rc_ids.specs.declared.names.Party.{Party}
use Rattle.rc_ids.specs.declared.names.Party.TheVariants.{Node, Client as ClientOf}
use Rattle.rc_net.specs.Network.{Message, message}
use Rattle.rc_msg.specs.declared.msg.Envelope.{Envelope}
use Rattle.rc_msg.specs.Reading.{envelope_in}
use Rattle.rc_report.specs.declared.line.Line.{Line}
use Rattle.rc_report.specs.declared.fault.Wrong.{Wrong}
use Rattle.rc_report.specs.declared.fault.Wrong.TheVariants.{Up}
use Rattle.rc_protocol.specs.Client.{Client, new_client}
use Rattle.rc_protocol.specs.Acts.{Came, Catches, ClientCause, Hears, Reads, Writes, Commits, Cancels, Vanishes, client_act}
use Rattle.rc_protocol.specs.Nodes.{CoordNode, ShardNode, coord_started, shard_started, coord_after, shard_after, coord_stopped, shard_stopped}
use Rattle.rc_runs.specs.declared.event.Event.{Event}
use Rattle.rc_runs.specs.declared.event.Event.TheVariants.{Read, Write, Commit, Cancel, Vanish, Deliver, Restart}
use Rattle.rc_runs.specs.World.{Parties, new_world, coord_at, shard_at, Deed, Idle, ByClient, ByCoord, ByShard, CoordStops, ShardStops, by_coord, by_shard, along, lines_of, restart_lines}
use Rattle.rc_runs.specs.Refusals.{Happening, wrong_of}
use Rattle.rc_wire.specs.declared.turn.Turn.{Turn}
use Rattle.rc_composition.specs.Composed.{Operations, event_of}

-- the coordinator of a datacentre, a shard server, a client, or a party that is not there
pub data Part : Type 0 where
  OfCoord : ℕ → CoordNode → Part
  OfShard : ℕ → ℕ → ShardNode → Part
  OfClient : ℕ → Client → Part
  NoPart : Part

-- the party in a world
abbrev pub part_in : Parties → Party → Part
part_in w (Node (Coord d)) = maybe (coord_at w d) NoPart (OfCoord d)
part_in w (Node (Shard d s)) = maybe (shard_at w d s) NoPart (OfShard d s)
part_in w (ClientOf t) = maybe (found nat_cmp w.clients t) NoPart (OfClient t)

-- a node of a new world, and a new client
abbrev pub new_part : Layout → Party → Part
new_part c (Node node) = part_in (new_world c).parties (Node node)
new_part c (ClientOf t) = OfClient t new_client

-- WHAT IT DOES
-- the message with a number, as its bytes read
abbrev pub envelope_at : List Message → ℕ → Option Envelope
envelope_at sent n = maybe (message sent n) None (λ m. envelope_in m.bytes)

-- a stopped node does nothing
abbrev pub hears : Layout → Part → Envelope → Deed
hears c (OfCoord d x) e = if x.up then by_coord c d x (Came e.from e.msg) else Idle
hears c (OfShard d s x) e = if x.up then by_shard c d s x (Came e.from e.msg) else Idle
hears c (OfClient t x) e = ByClient t (client_act c t x (Hears e.msg))
hears c NoPart e = Idle

-- a restart has what the log gives and nothing else, and begins by catching up
abbrev pub starts_again : Layout → Part → Deed
starts_again c (OfCoord d x) = by_coord c d (coord_started x.log) Catches
starts_again c (OfShard d s x) = by_shard c d s (shard_started x.log) Catches
starts_again c _ = Idle

abbrev pub is_told : Layout → Part → ClientCause → Deed
is_told c (OfClient t x) cause = ByClient t (client_act c t x cause)
is_told c _ cause = Idle

-- the operation of a client that the event is
abbrev pub cause_of : Event → Option ClientCause
cause_of (Read t k) = Some (Reads k)
cause_of (Write t k value) = Some (Writes k value)
cause_of (Commit t) = Some Commits
cause_of (Cancel t k) = Some (Cancels k)
cause_of (Vanish t) = Some Vanishes
cause_of _ = None

-- what the party does in the event
abbrev pub own_deed : Layout → List Message → Part → Event → Deed
own_deed c sent x (Deliver n) = maybe (envelope_at sent n) Idle (hears c x)
own_deed c sent x (Restart node) = starts_again c x
own_deed c sent x e = maybe (cause_of e) Idle (is_told c x)

abbrev pub does : Layout → List Message → Part → Happening → Deed
does c sent x h = along h.1 (own_deed c sent x h.0)

-- the lines that it prints
abbrev pub prints : Layout → List Message → Part → Happening → List Line
prints c sent x h = restart_lines h.0 ++ lines_of (does c sent x h)

-- WHAT IT REFUSES: a node that is up is not started, and a client refuses an operation
abbrev pub is_running : Part → Bool
is_running (OfCoord d x) = x.up
is_running (OfShard d s x) = x.up
is_running _ = false

abbrev pub refused_by : Part → ClientCause → Option Wrong
refused_by (OfClient t x) cause = wrong_of t x cause
refused_by _ cause = None

abbrev pub own_wrong : Part → Event → Option Wrong
own_wrong x (Restart node) = if is_running x then Some (Up node) else None
own_wrong x e = maybe (cause_of e) None (refused_by x)

-- WHAT IT IS THEN
abbrev pub part_after : Part → Deed → Part
part_after x Idle = x
part_after x (ByClient t act) = OfClient t act.after
part_after x (ByCoord d y act) = OfCoord d (coord_after y act)
part_after x (ByShard d s y act) = OfShard d s (shard_after y act)
part_after x (CoordStops d y kept) = OfCoord d (coord_stopped y kept)
part_after x (ShardStops d s y kept) = OfShard d s (shard_stopped y kept)

abbrev pub part_moved : Layout → List Message → Part → Option Happening → Part
part_moved c sent x h = maybe h x (λ e. part_after x (does c sent x e))

-- what the party is after those of its own entries that stand between these earlier and these later ones
abbrev pub part_between : Layout → Operations → List Message → Party → Part → List Turn → List Turn → List Turn → Part
part_between c ops sent p x earlier [] later = x
part_between c ops sent p x earlier (t ∷ ts) later =
    part_between c ops sent p (part_moved c sent x (event_of ops p earlier t.act (ts ++ later))) (earlier ++ t ∷ []) ts later

-- after its own entries, where these later ones follow
abbrev pub part_by : Layout → Operations → List Message → Party → List Turn → List Turn → Part
part_by c ops sent p mine later = part_between c ops sent p (new_part c p) [] mine later
