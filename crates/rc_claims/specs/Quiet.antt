-- Quiet quorums: datacentres that nothing disturbs while a transaction is read and committed. The law on them says that its client learns
-- commit once a stated number of messages is delivered.
use Rattle.std.specs.Prelude.{◌≡◌, ◌≢◌, ℕ, ◌<◌, ◌≤◌, ◌*◌, ◌+◌, ◌==◌, if◌then◌else◌, List, [], ◌∷◌, ◌++◌, map, filter, length, drop, Option, None, Some, IsTrue, false}
use Rattle.std.specs.Ordering.{nat_cmp}
use Rattle.std.specs.List.{list_any}
use Rattle.rc_ids.specs.Tables.{In, found, maybe, up_to}
use Rattle.rc_ids.specs.Cluster.{is_quorum, shard_of}
use Rattle.rc_ids.specs.declared.names.Outcome.TheVariants.{Commit as Committed}
use Rattle.rc_ids.specs.declared.names.NodeId.TheVariants.{Coord, Shard as ShardServer}
use Rattle.rc_ids.specs.declared.names.Party.{Party}
use Rattle.rc_ids.specs.declared.names.Party.TheVariants.{Node, Client as ClientOf}
use Rattle.rc_body.specs.Bodies.{has_key}
use Rattle.rc_body.specs.declared.entry.Entry.{Entry}
use Rattle.rc_body.specs.declared.decision.Decision.TheVariants.{Commit as CommitOf}
use Rattle.rc_msg.specs.declared.msg.Msg.{Msg}
use Rattle.rc_msg.specs.declared.msg.Msg.TheVariants.{ReadAsk, Granted, Propose, Prepare, Prepared, Voted}
use Rattle.rc_msg.specs.declared.msg.Envelope.{Envelope}
use Rattle.rc_report.specs.declared.line.Line.TheVariants.{Learned}
use Rattle.rc_runs.specs.declared.event.Event.{Event}
use Rattle.rc_runs.specs.declared.event.Event.TheVariants.{Commit, Cancel, Vanish}
use Rattle.rc_protocol.specs.Client.{Client, Slot, is_done, body_of}
use Rattle.rc_protocol.specs.Nodes.{CoordNode, ShardNode}
use Rattle.rc_runs.specs.Refusals.{Happening, is_event, after_event, run, lines}
use Rattle.rc_runs.specs.World.{World, Course, coord_at, shard_at, is_up, message}

-- A STRETCH of a run: its moments, before each of its events and at its end
abbrev pub moments : World → List Happening → List World
moments w [] = w ∷ []
moments w (h ∷ hs) = w ∷ moments (after_event w h) hs

-- its events, each with the world before it
abbrev pub events_of : World → List Happening → List (World × Happening)
events_of w [] = []
events_of w (h ∷ hs) = (if is_event w h then (w, h) ∷ [] else []) ++ events_of (after_event w h) hs

-- the keys of t, and the shards that it touches
abbrev pub keys_of : World → ℕ → List (List ℕ)
keys_of w t = maybe (found nat_cmp w.parties.clients t) [] (λ x. map (λ (s : Slot). s.key) x.slots)

abbrev pub shards_of : World → ℕ → List ℕ
shards_of w t = filter (λ (sh : ℕ). list_any (λ (k : List ℕ). shard_of w.parties.layout k == sh) (keys_of w t)) (up_to w.parties.layout.shards)

-- what became chosen: the order grows at its end alone
abbrev pub chosen_between : World → World → List (ℕ × List Entry)
chosen_between w later = drop (length w.parties.committed) later.parties.committed

-- none of these keys is in the body
abbrev pub HasNone : List (List ℕ) → List Entry → Type 0
HasNone keys body = (k : List ℕ) → In k keys → has_key k body ≡ false

-- the nodes of d are up
abbrev pub NodesAreUp : World → ℕ → Type 0
NodesAreUp w d = IsTrue (is_up w.parties (Coord d)) × ((sh : ℕ) (x : ShardNode) → shard_at w.parties d sh ≡ Some x → IsTrue x.up)

-- no other transaction is prepared at a shard of d with one of these keys
abbrev pub NoOtherIsPrepared : World → ℕ → ℕ → List (List ℕ) → Type 0
NoOtherIsPrepared w d t keys = (sh u : ℕ) (x : ShardNode) (part : List Entry) → shard_at w.parties d sh ≡ Some x → found nat_cmp x.durable.parts u ≡ Some part → u ≢ t → HasNone keys part

-- no take-over of t is open
abbrev pub NoTakeOver : World → ℕ → Type 0
NoTakeOver w t = (d : ℕ) (x : CoordNode) → coord_at w.parties d ≡ Some x → found nat_cmp x.volatile.takeovers t ≡ None

-- the client of t drops no read and does not vanish
abbrev pub DropsNothing : ℕ → Event → Type 0
DropsNothing t (Cancel u k) = u ≢ t
DropsNothing t (Vanish u) = u ≢ t
DropsNothing t e = Unit {0}

-- a quorum that is quiet for t over a stretch that begins before t does. A node that stops, also as its append fails, is not up at the next
-- moment
pub record IsQuiet (w : World) (members : List ℕ) (t : ℕ) (stretch : List Happening) : Type 0 where
  pub quorum : IsTrue (is_quorum w.parties.layout members)
  pub new : found nat_cmp w.parties.clients t ≡ None
  pub up : (v : World) (d : ℕ) → In v (moments w stretch) → In d members → NodesAreUp v d
  pub unprepared : (v : World) (d : ℕ) → In v (moments w stretch) → In d members → NoOtherIsPrepared v d t (keys_of (run w stretch) t)
  pub unchosen : (u : ℕ) (body : List Entry) → In (u, body) (chosen_between w (run w stretch)) → u ≢ t → HasNone (keys_of (run w stretch) t) body
  pub untaken : (v : World) → In v (moments w stretch) → NoTakeOver v t
  pub commits : (v : World) × (course : Course) × In (v, (Commit t, course)) (events_of w stretch)
  pub undropped : (v : World) (h : Happening) → In (v, h) (events_of w stretch) → DropsNothing t h.0

-- WHAT HAS TO BE DELIVERED: of each kind, sender, receiver and key the first message that was sent
pub data Need : Type 0 where
  Asks : ℕ → List ℕ → Need  -- a read of a key at a datacentre
  Grants : ℕ → List ℕ → Need
  Proposes : ℕ → Need
  Prepares : ℕ → ℕ → Need  -- a shard of a datacentre
  Answers : ℕ → ℕ → Need
  Votes : ℕ → Need  -- to the client

abbrev pub of_tx : ℕ → ℕ → Need → Option Need
of_tx t u need = if u == t then Some need else None

abbrev pub need_of : ℕ → Party → Party → Msg → Option Need
need_of t from (Node (ShardServer d sh)) (ReadAsk u k) = of_tx t u (Asks d k)
need_of t (Node (ShardServer d sh)) to (Granted u k e version value) = of_tx t u (Grants d k)
need_of t from (Node (Coord d)) (Propose u b o) = of_tx t u (Proposes d)
need_of t from (Node (ShardServer d sh)) (Prepare u part) = of_tx t u (Prepares d sh)
need_of t (Node (ShardServer d sh)) to (Prepared u shard reason) = of_tx t u (Answers d sh)
need_of t (Node (Coord d)) (ClientOf x) (Voted u b e o) = of_tx t u (Votes d)
need_of t from to msg = None

-- votes count from any datacentre
abbrev pub IsAmong : List ℕ → Need → Type 0
IsAmong members (Asks d k) = In d members
IsAmong members (Grants d k) = In d members
IsAmong members (Proposes d) = In d members
IsAmong members (Prepares d sh) = In d members
IsAmong members (Answers d sh) = In d members
IsAmong members (Votes d) = Unit {0}

pub record IsNeeded (members : List ℕ) (t : ℕ) (sent : List Envelope) (n : ℕ) : Type 0 where
  pub e : Envelope
  pub is : message sent n ≡ Some e
  pub need : Need
  pub kind : need_of t e.from e.to e.msg ≡ Some need
  pub among : IsAmong members need
  pub first : (i : ℕ) (f : Envelope) → i < n → message sent i ≡ Some f → need_of t f.from f.to f.msg ≢ Some need

-- THE LAW
-- no number stands twice
abbrev pub Differ : List ℕ → Type 0
Differ [] = Unit {0}
Differ (n ∷ ns) = (In n ns → ⊥) × Differ ns

-- at most so many: members, keys of t, shards that it touches, datacentres
abbrev pub most_deliveries : ℕ → ℕ → ℕ → ℕ → ℕ
most_deliveries members keys shards dcs = members * (2 * keys + 2 * shards + 1) + dcs

abbrev pub AreFew : World → List ℕ → ℕ → Type 0
AreFew later members t = (ns : List ℕ) → Differ ns → ((n : ℕ) → In n ns → IsNeeded members t later.sent n)
    → length ns ≤ most_deliveries (length members) (length (keys_of later t)) (length (shards_of later t)) later.parties.layout.dcs

abbrev pub AreDelivered : World → List ℕ → ℕ → Type 0
AreDelivered later members t = (n : ℕ) → IsNeeded members t later.sent n → In n later.delivered

pub record HasCommitted (w : World) (t : ℕ) : Type 0 where
  pub client : Client
  pub is : found nat_cmp w.parties.clients t ≡ Some client
  pub done : IsTrue (is_done client.phase)
  pub outcome : client.outcome ≡ Some (CommitOf (body_of client.slots))

-- of a world that a run reached: the messages needed are few, and once they are delivered t has committed, and it is printed
pub record QuietCommits (w : World) (members : List ℕ) (t : ℕ) (stretch : List Happening) : Type 0 where
  pub few : IsQuiet w members t stretch → AreFew (run w stretch) members t
  pub commits : IsQuiet w members t stretch → AreDelivered (run w stretch) members t → HasCommitted (run w stretch) t
  pub prints : IsQuiet w members t stretch → AreDelivered (run w stretch) members t → In (Learned t Committed) (lines w stretch)
