-- What a deed of an event may be, and why its party acts.
use Rattle.std.proofs.Common.{◌≡◌, ℕ, List, refl, ap, Bool, Some, None}
use Rattle.std.specs.Ordering.{nat_cmp}
use Rattle.rc_ids.specs.Tables.{found}
use Rattle.rc_ids.specs.declared.names.NodeId.{NodeId}
use Rattle.rc_ids.specs.declared.names.NodeId.TheVariants.{Coord, Shard as ShardServer}
use Rattle.rc_ids.specs.declared.names.Party.{Party}
use Rattle.rc_ids.specs.declared.names.Party.TheVariants.{Node, Client as ClientOf}
use Rattle.rc_msg.specs.declared.msg.Envelope.{Envelope}
use Rattle.rc_msg.specs.declared.msg.Msg.{Msg}
use Rattle.rc_record.specs.declared.record.Record.{Record}
use Rattle.rc_runs.specs.declared.event.Event.{Event}
use Rattle.rc_runs.specs.declared.event.Event.TheVariants.{Begin, Read, Write, Commit, Cancel, Retry, Vanish, Take, Catch, Deliver, Lose, Crash, CrashAt, Restart}
use Rattle.rc_protocol.specs.Messages.{coordinator, shard_server, client_of}
use Rattle.rc_protocol.specs.Client.{Client}
use Rattle.rc_protocol.specs.Acts.{NodeCause, Came, Catches, Takes, coord_act, shard_act, ClientCause, Hears, Reads, Writes, Commits, Cancels, Retries, Vanishes, client_act}
use Rattle.rc_protocol.specs.Nodes.{CoordNode, ShardNode, coord_started, shard_started}
use Rattle.rc_runs.specs.World.{Parties, Deed, Idle, ByClient, ByCoord, ByShard, CoordStops, ShardStops, Course, Goes, Stops, kept_record, coord_at, shard_at, message, received, coord_does, shard_does, client_does, catches, stops, restarts, deed, along, after_begin, actor}
use Rattle.rc_agreement.proofs.Cases.{on_cond, on_maybe}

-- the event delivers this message to this party
abbrev pub Delivers : List Envelope → Event → Party → Msg → Type 0
Delivers sent e to m = (n : ℕ) × (from : Party) × (e ≡ Deliver n) × (message sent n ≡ Some (record { from = from; to = to; msg = m }))

-- WHY A PARTY ACTS in the event
abbrev pub CoordWhy : List Envelope → Event → ℕ → NodeCause → Type 0
CoordWhy sent e d (Came from m) = Delivers sent e (coordinator d) m
CoordWhy sent e d Catches = e ≡ Catch (Coord d)
CoordWhy sent e d (Takes t) = e ≡ Take d t

abbrev pub ShardWhy : List Envelope → Event → ℕ → ℕ → NodeCause → Type 0
ShardWhy sent e d s (Came from m) = Delivers sent e (shard_server d s) m
ShardWhy sent e d s Catches = e ≡ Catch (ShardServer d s)
ShardWhy sent e d s (Takes t) = ⊥

abbrev pub ClientWhy : List Envelope → Event → ℕ → ClientCause → Type 0
ClientWhy sent e t (Hears m) = Delivers sent e (client_of t) m
ClientWhy sent e t (Reads k) = e ≡ Read t k
ClientWhy sent e t (Writes k value) = e ≡ Write t k value
ClientWhy sent e t Commits = e ≡ Commit t
ClientWhy sent e t (Cancels k) = e ≡ Cancel t k
ClientWhy sent e t Retries = e ≡ Retry t
ClientWhy sent e t Vanishes = e ≡ Vanish t

-- THE MOVES: what an event with this course comes to
pub data Move (w : Parties) (sent : List Envelope) (e : Event) (course : Course) : Deed → Type 0 where
  Rests : Move w sent e course Idle
  ClientActs : (t : ℕ) (x : Client) (k : ClientCause) → found nat_cmp w.clients t ≡ Some x → ClientWhy sent e t k → Move w sent e course (ByClient t (client_act w.layout t x k))
  CoordActs : (d : ℕ) (x : CoordNode) (k : NodeCause) → coord_at w d ≡ Some x → CoordWhy sent e d k → Move w sent e course (ByCoord d x (coord_act w.layout d x.durable x.volatile k))
  CoordWakes : (d : ℕ) (x : CoordNode) → coord_at w d ≡ Some x → e ≡ Restart (Coord d)
      → Move w sent e course (ByCoord d (coord_started x.log) (coord_act w.layout d (coord_started x.log).durable (coord_started x.log).volatile Catches))
  CoordHalts : (d : ℕ) (x : CoordNode) (k : NodeCause) (kept : Bool) (r : Record) → coord_at w d ≡ Some x → CoordWhy sent e d k → (coord_act w.layout d x.durable x.volatile k).logs ≡ Some r
      → course ≡ Stops kept → deed w sent e ≡ ByCoord d x (coord_act w.layout d x.durable x.volatile k) → Move w sent e course (CoordStops d x (kept_record kept r))
  CoordCrashes : (d : ℕ) (x : CoordNode) → coord_at w d ≡ Some x → e ≡ Crash (Coord d) → Move w sent e course (CoordStops d x None)
  ShardActs : (d s : ℕ) (x : ShardNode) (k : NodeCause) → shard_at w d s ≡ Some x → ShardWhy sent e d s k → Move w sent e course (ByShard d s x (shard_act w.layout d s x.durable x.volatile k))
  ShardWakes : (d s : ℕ) (x : ShardNode) → shard_at w d s ≡ Some x → e ≡ Restart (ShardServer d s)
      → Move w sent e course (ByShard d s (shard_started x.log) (shard_act w.layout d s (shard_started x.log).durable (shard_started x.log).volatile Catches))
  ShardHalts : (d s : ℕ) (x : ShardNode) (k : NodeCause) (kept : Bool) (r : Record) → shard_at w d s ≡ Some x → ShardWhy sent e d s k → (shard_act w.layout d s x.durable x.volatile k).logs ≡ Some r
      → course ≡ Stops kept → deed w sent e ≡ ByShard d s x (shard_act w.layout d s x.durable x.volatile k) → Move w sent e course (ShardStops d s x (kept_record kept r))
  ShardCrashes : (d s : ℕ) (x : ShardNode) → shard_at w d s ≡ Some x → e ≡ Crash (ShardServer d s) → Move w sent e course (ShardStops d s x None)

module _ (w : Parties) (sent : List Envelope) (e : Event) where
  abbrev M : Course → Deed → Type 0
  M course d = Move w sent e course (along course d)

  rests : (course : Course) → M course Idle
  rests Goes = Rests
  rests (Stops kept) = Rests

  coord_goes : (course : Course) (d : ℕ) (x : CoordNode) (k : NodeCause) → coord_at w d ≡ Some x → CoordWhy sent e d k
      → deed w sent e ≡ ByCoord d x (coord_act w.layout d x.durable x.volatile k) → M course (ByCoord d x (coord_act w.layout d x.durable x.volatile k))
  coord_goes Goes d x k is why same = CoordActs d x k is why
  coord_goes (Stops kept) d x k is why same =
      on_maybe (Move w sent e (Stops kept)) (coord_act w.layout d x.durable x.volatile k).logs _ _ (λ _. CoordActs d x k is why) (λ r logs. CoordHalts d x k kept r is why logs refl same)

  shard_goes : (course : Course) (d s : ℕ) (x : ShardNode) (k : NodeCause) → shard_at w d s ≡ Some x → ShardWhy sent e d s k
      → deed w sent e ≡ ByShard d s x (shard_act w.layout d s x.durable x.volatile k) → M course (ByShard d s x (shard_act w.layout d s x.durable x.volatile k))
  shard_goes Goes d s x k is why same = ShardActs d s x k is why
  shard_goes (Stops kept) d s x k is why same =
      on_maybe (Move w sent e (Stops kept)) (shard_act w.layout d s x.durable x.volatile k).logs _ _ (λ _. ShardActs d s x k is why) (λ r logs. ShardHalts d s x k kept r is why logs refl same)

  client_goes : (course : Course) (t : ℕ) (x : Client) (k : ClientCause) → found nat_cmp w.clients t ≡ Some x → ClientWhy sent e t k → M course (ByClient t (client_act w.layout t x k))
  client_goes Goes t x k is why = ClientActs t x k is why
  client_goes (Stops kept) t x k is why = ClientActs t x k is why

  coord_does_moves : (course : Course) (d : ℕ) (k : NodeCause) → CoordWhy sent e d k → deed w sent e ≡ coord_does w d k → M course (coord_does w d k)
  coord_does_moves course d k why =
      on_maybe (λ y. deed w sent e ≡ y → M course y) (coord_at w d) _ _ (λ _ _. rests course)
      (λ x is. on_cond (λ y. deed w sent e ≡ y → M course y) x.up _ _ (λ _. coord_goes course d x k is why) (λ _ _. rests course))

  shard_does_moves : (course : Course) (d s : ℕ) (k : NodeCause) → ShardWhy sent e d s k → deed w sent e ≡ shard_does w d s k → M course (shard_does w d s k)
  shard_does_moves course d s k why =
      on_maybe (λ y. deed w sent e ≡ y → M course y) (shard_at w d s) _ _ (λ _ _. rests course)
      (λ x is. on_cond (λ y. deed w sent e ≡ y → M course y) x.up _ _ (λ _. shard_goes course d s x k is why) (λ _ _. rests course))

  client_does_moves : (course : Course) (t : ℕ) (k : ClientCause) → ClientWhy sent e t k → M course (client_does w t k)
  client_does_moves course t k why = on_maybe (M course) (found nat_cmp w.clients t) _ _ (λ _. rests course) (λ x is. client_goes course t x k is why)

  comes : (course : Course) (n : ℕ) (v : Envelope) (to : Party) → e ≡ Deliver n → message sent n ≡ Some (record { from = v.from; to = to; msg = v.msg }) → deed w sent e ≡ received w v to
      → M course (received w v to)
  comes course n v (Node (Coord d)) is got same = coord_does_moves course d (Came v.from v.msg) (n, v.from, is, got) same
  comes course n v (Node (ShardServer d s)) is got same = shard_does_moves course d s (Came v.from v.msg) (n, v.from, is, got) same
  comes course n v (ClientOf t) is got same = client_does_moves course t (Hears v.msg) (n, v.from, is, got)

  catch_moves : (course : Course) (node : NodeId) → e ≡ Catch node → deed w sent e ≡ catches w node → M course (catches w node)
  catch_moves course (Coord d) is = coord_does_moves course d Catches is
  catch_moves course (ShardServer d s) is = shard_does_moves course d s Catches is

  stop_moves : (course : Course) (node : NodeId) → e ≡ Crash node → M course (stops w node)
  stop_moves course (Coord d) why = on_maybe (M course) (coord_at w d) _ _ (λ _. rests course) (λ x is. either course x is)
    where
      either : (course : Course) (x : CoordNode) → coord_at w d ≡ Some x → M course (CoordStops d x None)
      either Goes x is = CoordCrashes d x is why
      either (Stops kept) x is = CoordCrashes d x is why
  stop_moves course (ShardServer d s) why = on_maybe (M course) (shard_at w d s) _ _ (λ _. rests course) (λ x is. either course x is)
    where
      either : (course : Course) (x : ShardNode) → shard_at w d s ≡ Some x → M course (ShardStops d s x None)
      either Goes x is = ShardCrashes d s x is why
      either (Stops kept) x is = ShardCrashes d s x is why

  restart_moves : (course : Course) (node : NodeId) → e ≡ Restart node → M course (restarts w node)
  restart_moves course (Coord d) why = on_maybe (M course) (coord_at w d) _ _ (λ _. rests course) (λ x is. either course x is)
    where
      either : (course : Course) (x : CoordNode) → coord_at w d ≡ Some x → M course (ByCoord d (coord_started x.log) (coord_act w.layout d (coord_started x.log).durable (coord_started x.log).volatile Catches))
      either Goes x is = CoordWakes d x is why
      either (Stops kept) x is = CoordWakes d x is why
  restart_moves course (ShardServer d s) why = on_maybe (M course) (shard_at w d s) _ _ (λ _. rests course) (λ x is. either course x is)
    where
      either : (course : Course) (x : ShardNode) → shard_at w d s ≡ Some x → M course (ByShard d s (shard_started x.log) (shard_act w.layout d s (shard_started x.log).durable (shard_started x.log).volatile Catches))
      either Goes x is = ShardWakes d s x is why
      either (Stops kept) x is = ShardWakes d s x is why

pub move_of : (w : Parties) (sent : List Envelope) (e : Event) (course : Course) → Move w sent e course (along course (deed w sent e))
move_of w sent (Begin t) course = rests w sent (Begin t) course
move_of w sent (Read t k) course = client_does_moves w sent (Read t k) course t (Reads k) refl
move_of w sent (Write t k value) course = client_does_moves w sent (Write t k value) course t (Writes k value) refl
move_of w sent (Commit t) course = client_does_moves w sent (Commit t) course t Commits refl
move_of w sent (Cancel t k) course = client_does_moves w sent (Cancel t k) course t (Cancels k) refl
move_of w sent (Retry t) course = client_does_moves w sent (Retry t) course t Retries refl
move_of w sent (Vanish t) course = client_does_moves w sent (Vanish t) course t Vanishes refl
move_of w sent (Take d t) course = coord_does_moves w sent (Take d t) course d (Takes t) refl refl
move_of w sent (Catch node) course = catch_moves w sent (Catch node) course node refl refl
move_of w sent (Deliver n) course =
    on_maybe (λ y. deed w sent (Deliver n) ≡ y → Move w sent (Deliver n) course (along course y)) (message sent n) _ _ (λ _ _. rests w sent (Deliver n) course)
    (λ v is same. comes w sent (Deliver n) course n v v.to refl is same) refl
move_of w sent (Lose n) course = rests w sent (Lose n) course
move_of w sent (Crash node) course = stop_moves w sent (Crash node) course node refl
move_of w sent (CrashAt node k pick) course = rests w sent (CrashAt node k pick) course
move_of w sent (Restart node) course = restart_moves w sent (Restart node) course node refl

-- a node acts in no event that begins a transaction
pub coord_joins : (w : Parties) (sent : List Envelope) (e : Event) (d : ℕ) (k : NodeCause) → CoordWhy sent e d k → after_begin w e ≡ w
coord_joins w sent e d (Came from m) why = ap (after_begin w) why.2
coord_joins w sent e d Catches why = ap (after_begin w) why
coord_joins w sent e d (Takes t) why = ap (after_begin w) why

pub shard_joins : (w : Parties) (sent : List Envelope) (e : Event) (d s : ℕ) (k : NodeCause) → ShardWhy sent e d s k → after_begin w e ≡ w
shard_joins w sent e d s (Came from m) why = ap (after_begin w) why.2
shard_joins w sent e d s Catches why = ap (after_begin w) why
shard_joins w sent e d s (Takes t) why = absurd why

-- nor does a client
pub client_joins : (w : Parties) (sent : List Envelope) (e : Event) (t : ℕ) (k : ClientCause) → ClientWhy sent e t k → after_begin w e ≡ w
client_joins w sent e t (Hears m) why = ap (after_begin w) why.2
client_joins w sent e t (Reads k) why = ap (after_begin w) why
client_joins w sent e t (Writes k value) why = ap (after_begin w) why
client_joins w sent e t Commits why = ap (after_begin w) why
client_joins w sent e t (Cancels k) why = ap (after_begin w) why
client_joins w sent e t Retries why = ap (after_begin w) why
client_joins w sent e t Vanishes why = ap (after_begin w) why

-- WHO ACTS
receiver : (sent : List Envelope) (e : Event) (to : Party) (m : Msg) → Delivers sent e to m → actor sent e ≡ to
receiver sent e to m h = rw h.2 (rw h.3 refl)

pub coord_actor : (sent : List Envelope) (e : Event) (d : ℕ) (k : NodeCause) → CoordWhy sent e d k → actor sent e ≡ coordinator d
coord_actor sent e d (Came from m) why = receiver sent e (coordinator d) m why
coord_actor sent e d Catches why = rw why refl
coord_actor sent e d (Takes t) why = rw why refl

pub shard_actor : (sent : List Envelope) (e : Event) (d s : ℕ) (k : NodeCause) → ShardWhy sent e d s k → actor sent e ≡ shard_server d s
shard_actor sent e d s (Came from m) why = receiver sent e (shard_server d s) m why
shard_actor sent e d s Catches why = rw why refl
shard_actor sent e d s (Takes t) why = absurd why
