-- A world: its nodes and clients, and the network between them. Its events are each one atomic action of one node or client.
use Rattle.std.specs.Prelude.{ℕ, suc, ◌+◌, ◌-◌, ◌*◌, Bool, false, ◌&&◌, List, [], ◌∷◌, ◌++◌, map, replicate, Option, Some, None, ◌==◌, if◌then◌else◌, length, slice_get, slice_set, sum_by}
use Rattle.std.specs.Ordering.{nat_cmp}
use Rattle.std.specs.Map.{set_value}
use Rattle.std.specs.BTreeMap.{is_at}
use Rattle.rc_ids.specs.Tables.{Table, found, put, maybe}
use Rattle.rc_ids.specs.Cluster.{Layout, is_dc, is_shard}
use Rattle.rc_ids.specs.declared.names.NodeId.{NodeId}
use Rattle.rc_ids.specs.declared.names.NodeId.TheVariants.{Coord, Shard as ShardServer}
use Rattle.rc_ids.specs.declared.names.Party.{Party}
use Rattle.rc_ids.specs.declared.names.Party.TheVariants.{Node, Client as ClientOf}
use Rattle.rc_body.specs.declared.entry.Entry.{Entry}
use Rattle.rc_msg.specs.declared.msg.Msg.{Msg}
use Rattle.rc_msg.specs.declared.msg.Envelope.{Envelope}
use Rattle.rc_msg.specs.Spelling.{envelope_bytes}
use Rattle.rc_record.specs.declared.record.Record.{Record}
use Rattle.rc_report.specs.declared.line.Line.{Line}
use Rattle.rc_report.specs.declared.line.Line.TheVariants.{Stopped, Up}
use Rattle.rc_runs.specs.declared.event.Event.{Event}
use Rattle.rc_runs.specs.declared.event.Event.TheVariants.{Begin, Read, Write, Commit, Cancel, Retry, Vanish, Take, Catch, Deliver, Lose, Crash, CrashAt, Restart}
use Rattle.rc_protocol.specs.Messages.{Posts, coordinator, client_of}
use Rattle.rc_protocol.specs.Shard.{ShardAct}
use Rattle.rc_protocol.specs.Coordinator.{CoordAct}
use Rattle.rc_protocol.specs.Client.{Client, ClientAct, new_client}
use Rattle.rc_protocol.specs.Acts.{NodeCause, Came, Catches, Takes, coord_act, shard_act, ClientCause, Hears, Reads, Writes, Commits, Cancels, Retries, Vanishes, client_act}
use Rattle.rc_protocol.specs.Nodes.{CoordNode, ShardNode, coord_index, shard_index, coord_started, shard_started, coord_after, shard_after, coord_stopped, shard_stopped}
use Rattle.rc_runs.specs.Votes.{ordered}

-- what the logs say with which the run began: the transactions that they name, and those whose commit their votes choose, with their bodies
pub record Start : Type 0 where
  pub named : List ℕ
  pub committed : List (ℕ × List Entry)

-- all that act, and what their votes chose
pub record Parties : Type 0 where
  pub layout : Layout
  pub start : Start
  pub coords : List CoordNode  -- d1, d2 and so on
  pub shards : List ShardNode  -- d1.s1, d1.s2 and so on, then those of d2
  pub clients : Table ℕ Client
  pub committed : List (ℕ × List Entry)  -- the transactions whose commit was chosen in this run, in the order in which it first was, with their bodies

pub record World : Type 0 where
  pub parties : Parties
  pub sent : List Envelope  -- all messages that were ever sent; the first has number 1
  pub bytes : ℕ  -- of all these messages together
  pub pending : List ℕ  -- the numbers of those that were neither delivered nor lost yet
  pub delivered : List ℕ  -- the numbers of the messages delivered, as often and in the order as they were
  pub events : ℕ

-- the logs are empty
abbrev pub new_start : Start
new_start = record { named = []; committed = [] }

-- nodes that start from these logs
abbrev pub started_world : Layout → Start → List CoordNode → List ShardNode → World
started_world c start coords shards = record {
  parties = record { layout = c; start = start; coords = coords; shards = shards; clients = []; committed = [] };
  sent = [];
  bytes = 0;
  pending = [];
  delivered = [];
  events = 0;
}

abbrev pub new_world : Layout → World
new_world c = started_world c new_start (replicate c.dcs (coord_started [])) (replicate (c.dcs * c.shards) (shard_started []))

-- the committed transactions of this run
abbrev pub order : World → List ℕ
order w = map (λ (x : ℕ × List Entry). x.0) w.parties.committed

-- the shard server is one of the world
abbrev pub is_shard_of : Layout → ℕ → ℕ → Bool
is_shard_of c d sh = is_dc c d && is_shard c sh

-- none outside the world
abbrev pub coord_at : Parties → ℕ → Option CoordNode
coord_at w d = if is_dc w.layout d then slice_get w.coords (coord_index d) else None

abbrev pub shard_at : Parties → ℕ → ℕ → Option ShardNode
shard_at w d sh = if is_shard_of w.layout d sh then slice_get w.shards (shard_index w.layout d sh) else None

-- a stopped node is there, and is not up
abbrev pub is_up : Parties → NodeId → Bool
is_up w (Coord d) = maybe (coord_at w d) false (λ x. x.up)
is_up w (ShardServer d sh) = maybe (shard_at w d sh) false (λ x. x.up)

-- WHAT A PARTY DOES
pub data Deed : Type 0 where
  Idle : Deed
  ByClient : ℕ → ClientAct → Deed
  ByCoord : ℕ → CoordNode → CoordAct → Deed
  ByShard : ℕ → ℕ → ShardNode → ShardAct → Deed
  -- a node stops, with one more record in its log or none
  CoordStops : ℕ → CoordNode → Option Record → Deed
  ShardStops : ℕ → ℕ → ShardNode → Option Record → Deed

-- the message with a number
abbrev pub message : List Envelope → ℕ → Option Envelope
message sent n = if n == 0 then None else slice_get sent (n - 1)

abbrev pub by_coord : Layout → ℕ → CoordNode → NodeCause → Deed
by_coord c d x cause = ByCoord d x (coord_act c d x.durable x.volatile cause)

abbrev pub by_shard : Layout → ℕ → ℕ → ShardNode → NodeCause → Deed
by_shard c d sh x cause = ByShard d sh x (shard_act c d sh x.durable x.volatile cause)

-- a stopped node and a client that is not there do nothing
abbrev pub coord_does : Parties → ℕ → NodeCause → Deed
coord_does w d cause = maybe (coord_at w d) Idle (λ x. if x.up then by_coord w.layout d x cause else Idle)

abbrev pub shard_does : Parties → ℕ → ℕ → NodeCause → Deed
shard_does w d sh cause = maybe (shard_at w d sh) Idle (λ x. if x.up then by_shard w.layout d sh x cause else Idle)

abbrev pub client_does : Parties → ℕ → ClientCause → Deed
client_does w t cause = maybe (found nat_cmp w.clients t) Idle (λ x. ByClient t (client_act w.layout t x cause))

abbrev pub received : Parties → Envelope → Party → Deed
received w e (Node (Coord d)) = coord_does w d (Came e.from e.msg)
received w e (Node (ShardServer d sh)) = shard_does w d sh (Came e.from e.msg)
received w e (ClientOf t) = client_does w t (Hears e.msg)

abbrev pub catches : Parties → NodeId → Deed
catches w (Coord d) = coord_does w d Catches
catches w (ShardServer d sh) = shard_does w d sh Catches

abbrev pub stops : Parties → NodeId → Deed
stops w (Coord d) = maybe (coord_at w d) Idle (λ x. CoordStops d x None)
stops w (ShardServer d sh) = maybe (shard_at w d sh) Idle (λ x. ShardStops d sh x None)

-- a restart has what the log gives and nothing else, and begins by catching up
abbrev pub restarts : Parties → NodeId → Deed
restarts w (Coord d) = maybe (coord_at w d) Idle (λ x. by_coord w.layout d (coord_started x.log) Catches)
restarts w (ShardServer d sh) = maybe (shard_at w d sh) Idle (λ x. by_shard w.layout d sh (shard_started x.log) Catches)

-- what the party does that acts in the event
abbrev pub deed : Parties → List Envelope → Event → Deed
deed w sent (Begin t) = Idle
deed w sent (Read t k) = client_does w t (Reads k)
deed w sent (Write t k value) = client_does w t (Writes k value)
deed w sent (Commit t) = client_does w t Commits
deed w sent (Cancel t k) = client_does w t (Cancels k)
deed w sent (Retry t) = client_does w t Retries
deed w sent (Vanish t) = client_does w t Vanishes
deed w sent (Take d t) = coord_does w d (Takes t)
deed w sent (Catch node) = catches w node
deed w sent (Deliver n) = maybe (message sent n) Idle (λ e. received w e e.to)
deed w sent (Lose n) = Idle
deed w sent (Crash node) = stops w node
deed w sent (CrashAt node k pick) = Idle
deed w sent (Restart node) = restarts w node

-- HOW THE EVENT'S APPEND WENT, where it makes a record: the node goes on, or stops inside the event with its record kept or not
pub data Course : Type 0 where
  Goes : Course
  Stops : Bool → Course

abbrev pub kept_record : Bool → Record → Option Record
kept_record kept r = if kept then Some r else None

-- a node that stops inside an event sends nothing; an event without a record goes on
abbrev pub along : Course → Deed → Deed
along (Stops kept) (ByCoord d x act) = maybe act.logs (ByCoord d x act) (λ r. CoordStops d x (kept_record kept r))
along (Stops kept) (ByShard d sh x act) = maybe act.logs (ByShard d sh x act) (λ r. ShardStops d sh x (kept_record kept r))
along course d = d

abbrev pub sends_of : Deed → Posts
sends_of (ByClient t act) = act.sends
sends_of (ByCoord d x act) = act.sends
sends_of (ByShard d sh x act) = act.sends
sends_of _ = []

abbrev pub lines_of : Deed → List Line
lines_of (ByClient t act) = act.lines
lines_of (CoordStops d x kept) = Stopped (Coord d) ∷ []
lines_of (ShardStops d sh x kept) = Stopped (ShardServer d sh) ∷ []
lines_of _ = []

-- POSTING: messages are numbered in the order sent
abbrev pub envelopes : Party → Posts → List Envelope
envelopes from ms = map (λ (m : Party × Msg). record { from = from; to = m.0; msg = m.1 }) ms

abbrev pub numbers_after : ℕ → Posts → List ℕ
numbers_after n [] = []
numbers_after n (m ∷ ms) = suc n ∷ numbers_after (suc n) ms

abbrev pub bytes_of : List Envelope → ℕ
bytes_of es = sum_by (λ (e : Envelope). length (envelope_bytes e)) es

abbrev pub posted : World → Party → Posts → World
posted w from ms = record w {
  sent = w.sent ++ envelopes from ms;
  bytes = w.bytes + bytes_of (envelopes from ms);
  pending = w.pending ++ numbers_after (length w.sent) ms;
}

-- the list without the number
abbrev pub taken_out : List ℕ → ℕ → List ℕ
taken_out [] n = []
taken_out (k ∷ ks) n = if k == n then ks else k ∷ taken_out ks n

-- A STEP
abbrev pub replaced : {X : Type 0} → Table ℕ X → ℕ → X → Table ℕ X
replaced table t x = set_value (is_at (nat_cmp t)) table x

abbrev pub with_client : Parties → ℕ → Client → Parties
with_client w t x = record w { clients = replaced w.clients t x }

abbrev pub with_coord : Parties → ℕ → CoordNode → Option Record → Parties
with_coord w d x r = record w {
  coords = slice_set w.coords (coord_index d) x;
  committed = ordered w.layout (slice_set w.coords (coord_index d) x) w.start.committed w.committed r;
}

abbrev pub with_shard : Parties → ℕ → ℕ → ShardNode → Parties
with_shard w d sh x = record w { shards = slice_set w.shards (shard_index w.layout d sh) x }

-- the parties after a deed
abbrev pub parties_after : Parties → Deed → Parties
parties_after w Idle = w
parties_after w (ByClient t act) = with_client w t act.after
parties_after w (ByCoord d x act) = with_coord w d (coord_after x act) act.logs
parties_after w (ByShard d sh x act) = with_shard w d sh (shard_after x act)
parties_after w (CoordStops d x kept) = with_coord w d (coord_stopped x kept) kept
parties_after w (ShardStops d sh x kept) = with_shard w d sh (shard_stopped x kept)

abbrev pub with_parties : World → Parties → World
with_parties w parties = record w { parties = parties }

abbrev pub with_new_client : Parties → ℕ → Parties
with_new_client w t = record w { clients = put nat_cmp w.clients t new_client }

-- a transaction begins with a new client
abbrev pub after_begin : Parties → Event → Parties
after_begin w (Begin t) = with_new_client w t
after_begin w _ = w

-- what is delivered or lost is no longer pending
abbrev pub still_pending : List ℕ → Event → List ℕ
still_pending pending (Deliver n) = taken_out pending n
still_pending pending (Lose n) = taken_out pending n
still_pending pending _ = pending

abbrev pub delivered_after : List ℕ → Event → List ℕ
delivered_after delivered (Deliver n) = delivered ++ n ∷ []
delivered_after delivered _ = delivered

abbrev pub at_deed : World → Event → World
at_deed w e = record w {
  parties = after_begin w.parties e;
  pending = still_pending w.pending e;
  delivered = delivered_after w.delivered e;
  events = w.events + 1;
}

-- who acts in the event
abbrev pub actor : List Envelope → Event → Party
actor sent (Begin t) = client_of t
actor sent (Read t k) = client_of t
actor sent (Write t k value) = client_of t
actor sent (Commit t) = client_of t
actor sent (Cancel t k) = client_of t
actor sent (Retry t) = client_of t
actor sent (Vanish t) = client_of t
actor sent (Take d t) = coordinator d
actor sent (Catch node) = Node node
actor sent (Deliver n) = maybe (message sent n) (client_of 0) (λ e. e.to)
actor sent (Lose n) = client_of 0
actor sent (Crash node) = Node node
actor sent (CrashAt node k pick) = Node node
actor sent (Restart node) = Node node

-- the deed is done, and its messages are posted
abbrev pub after_deed : World → Party → Deed → World
after_deed w from d = posted (with_parties w (parties_after w.parties d)) from (sends_of d)

-- what is done in the event
abbrev pub course_deed : World → Event → Course → Deed
course_deed w e course = along course (deed w.parties w.sent e)

abbrev pub step : World → Event → Course → World
step w e course = after_deed (at_deed w e) (actor w.sent e) (course_deed w e course)

-- the lines that the event prints
abbrev pub restart_lines : Event → List Line
restart_lines (Restart node) = Up node ∷ []
restart_lines _ = []

abbrev pub printed : World → Event → Course → List Line
printed w e course = restart_lines e ++ lines_of (course_deed w e course)
