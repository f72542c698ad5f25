-- Worlds stay in the grammar with every event, and begin in it.
use Rattle.std.proofs.Common.{◌≡◌, ℕ, ◌-◌, ◌*◌, ◌<◌, ◌==◌, Bool, true, List, [], ◌∷◌, length, refl, subst, arith, Option, Some, None}
use Rattle.std.specs.Prelude.{map, slice_get}
use Rattle.std.specs.List.{AllByRecursion}
use Rattle.std.specs.Ordering.{nat_cmp}
use Rattle.std.specs.BTreeMap.{is_at}
use Rattle.rc_ids.specs.Tables.{Table, found, maybe}
use Rattle.rc_ids.specs.Cluster.{Layout, IsLayout, is_dc, is_shard}
use Rattle.rc_ids.specs.declared.names.NodeId.{NodeId}
use Rattle.rc_ids.specs.declared.names.NodeId.TheVariants.{Coord, Shard as ShardServer}
use Rattle.rc_ids.specs.declared.names.Party.{Party}
use Rattle.rc_ids.specs.declared.names.Party.TheVariants.{Node, Client as ClientOf}
use Rattle.rc_fields.specs.Ranges.{IsTxNumber, IsPartyName}
use Rattle.rc_msg.specs.declared.msg.Envelope.{Envelope}
use Rattle.rc_msg.specs.Spelling.{HasEnvelope}
use Rattle.rc_record.specs.declared.record.Record.{Record}
use Rattle.rc_runs.specs.declared.event.Event.{Event}
use Rattle.rc_runs.specs.declared.event.Event.TheVariants.{Begin, Read, Write, Commit, Cancel, Retry, Vanish, Take, Catch, Deliver, Lose, Crash, CrashAt, Restart}
use Rattle.rc_protocol.specs.Messages.{Posts, client_of}
use Rattle.rc_protocol.specs.Client.{Client, new_client}
use Rattle.rc_protocol.specs.Acts.{NodeCause, Came, Catches, ClientCause, Reads, Writes, Commits, Cancels, Retries, Vanishes, Takes, Hears, client_act}
use Rattle.rc_protocol.specs.Nodes.{CoordNode, ShardNode, coord_index, shard_index, coord_started, shard_started, coord_after, shard_after, coord_stopped, shard_stopped}
use Rattle.rc_runs.specs.World.{World, Parties, Start, started_world, new_world, coord_at, shard_at, is_shard_of, Deed, Idle, ByClient, ByCoord, ByShard, CoordStops, ShardStops, message, by_coord, by_shard, coord_does, shard_does, client_does, received, catches, stops, restarts, deed, Course, Goes, Stops, kept_record, along, sends_of, envelopes, replaced, with_coord, with_shard, parties_after, after_begin, actor, course_deed, step}
use Rattle.rc_grammar.specs.Acts.{HasPosts, HasLogged, HasLog, HasNodeCause, HasClientCause}
use Rattle.rc_grammar.specs.Shards.{HasShardDurable, HasShardNode, ShardSpeaks}
use Rattle.rc_grammar.specs.Coordinators.{HasCoordDurable, HasCoordNode, CoordSpeaks}
use Rattle.rc_grammar.specs.Clients.{HasClient, ClientSpeaks}
use Rattle.rc_grammar.specs.Worlds.{HasEvent, HasClientOf, HasParties, HasWorld, DeedSpeaks}
use Rattle.rc_grammar.proofs.Lists.{on_cond, on_maybe, never, and_left, and_right, all_both, all_alike, all_get, all_set, all_map, all_put, all_found, all_replicate}
use Rattle.rc_grammar.proofs.ShardStates.{shard_keeps_logged, shard_starts, log_grows, has_new_volatile as has_new_shard_volatile}
use Rattle.rc_grammar.proofs.CoordStates.{coord_keeps_logged, coord_starts, has_new_volatile as has_new_coord_volatile}
use Rattle.rc_grammar.proofs.Shards.{shards_speak}
use Rattle.rc_grammar.proofs.Coordinators.{coords_speak}
use Rattle.rc_grammar.proofs.Clients.{clients_speak}

-- DEEDS whose records and messages have a spelling
abbrev HasDeed : Deed → Type 0
HasDeed Idle = Unit {0}
HasDeed (ByClient t act) = ClientSpeaks act
HasDeed (ByCoord d x act) = HasLog x.log × HasCoordDurable x.durable × CoordSpeaks x.durable act
HasDeed (ByShard d sh x act) = HasLog x.log × HasShardDurable x.durable × ShardSpeaks x.durable act
HasDeed (CoordStops d x kept) = HasLog x.log × HasCoordDurable x.durable × HasLogged kept
HasDeed (ShardStops d sh x kept) = HasLog x.log × HasShardDurable x.durable × HasLogged kept

deed_speaks : (d : Deed) → HasDeed d → DeedSpeaks d
deed_speaks Idle h = record { logs = tt; sends = tt }
deed_speaks (ByClient t act) h = record { logs = tt; sends = h.sends }
deed_speaks (ByCoord d x act) h = record { logs = h.2.logs; sends = h.2.sends }
deed_speaks (ByShard d sh x act) h = record { logs = h.2.logs; sends = h.2.sends }
deed_speaks (CoordStops d x kept) h = record { logs = h.2; sends = tt }
deed_speaks (ShardStops d sh x kept) h = record { logs = h.2; sends = tt }

replaced_have : (clients : Table ℕ Client) (t : ℕ) (x : Client) → AllByRecursion HasClientOf clients → HasClient x → AllByRecursion HasClientOf (replaced clients t x)
replaced_have [] t x h own = tt
replaced_have (e ∷ es) t x h own =
    on_cond (AllByRecursion HasClientOf) (is_at (nat_cmp t) e.0) ((e.0, x) ∷ es) (e ∷ replaced es t x) (λ _. ((h.0.0, own), h.1)) (λ _. (h.0, replaced_have es t x h.1 own))

with_coord_has : (w : Parties) (d : ℕ) (x : CoordNode) (r : Option Record) → HasParties w → HasCoordNode x → HasParties (with_coord w d x r)
with_coord_has w d x r h own = record { layout = h.layout; coords = all_set HasCoordNode w.coords (coord_index d) x h.coords own; shards = h.shards; clients = h.clients }

with_shard_has : (w : Parties) (d sh : ℕ) (x : ShardNode) → HasParties w → HasShardNode x → HasParties (with_shard w d sh x)
with_shard_has w d sh x h own = record { layout = h.layout; coords = h.coords; shards = all_set HasShardNode w.shards (shard_index w.layout d sh) x h.shards own; clients = h.clients }

parties_have : (w : Parties) (d : Deed) → HasParties w → HasDeed d → HasParties (parties_after w d)
parties_have w Idle h own = h
parties_have w (ByClient t act) h own = record { layout = h.layout; coords = h.coords; shards = h.shards; clients = replaced_have w.clients t act.after h.clients own.after }
parties_have w (ByCoord d x act) h own =
    with_coord_has w d (coord_after x act) act.logs h (record { log = log_grows x.log act.logs own.0 own.2.logs; durable = own.2.durable; volatile = own.2.volatile })
parties_have w (ByShard d sh x act) h own =
    with_shard_has w d sh (shard_after x act) h (record { log = log_grows x.log act.logs own.0 own.2.logs; durable = own.2.durable; volatile = own.2.volatile })
parties_have w (CoordStops d x kept) h own =
    with_coord_has w d (coord_stopped x kept) kept h (record { log = log_grows x.log kept own.0 own.2; durable = coord_keeps_logged x.durable kept own.1 own.2; volatile = has_new_coord_volatile })
parties_have w (ShardStops d sh x kept) h own =
    with_shard_has w d sh (shard_stopped x kept) h (record { log = log_grows x.log kept own.0 own.2; durable = shard_keeps_logged x.durable kept own.1 own.2; volatile = has_new_shard_volatile })

-- HOW THE APPEND WENT
kept_has : (kept : Bool) (r : Record) → HasLogged (Some r) → HasLogged (kept_record kept r)
kept_has kept r h = on_cond HasLogged kept (Some r) None (λ _. h) (λ _. tt)

along_has : (course : Course) (d : Deed) → HasDeed d → HasDeed (along course d)
along_has Goes Idle h = h
along_has Goes (ByClient t act) h = h
along_has Goes (ByCoord d x act) h = h
along_has Goes (ByShard d sh x act) h = h
along_has Goes (CoordStops d x kept) h = h
along_has Goes (ShardStops d sh x kept) h = h
along_has (Stops kept) Idle h = h
along_has (Stops kept) (ByClient t act) h = h
along_has (Stops kept) (ByCoord d x act) h =
    on_maybe HasDeed act.logs (ByCoord d x act) (λ r. CoordStops d x (kept_record kept r)) (λ _. h)
    (λ r is. (h.0, h.1, kept_has kept r (subst HasLogged is h.2.logs)))
along_has (Stops kept) (ByShard d sh x act) h =
    on_maybe HasDeed act.logs (ByShard d sh x act) (λ r. ShardStops d sh x (kept_record kept r)) (λ _. h)
    (λ r is. (h.0, h.1, kept_has kept r (subst HasLogged is h.2.logs)))
along_has (Stops kept) (CoordStops d x more) h = h
along_has (Stops kept) (ShardStops d sh x more) h = h

idle_says : (course : Course) → 0 < length (sends_of (along course Idle)) → ⊥
idle_says Goes some = omega arith
idle_says (Stops kept) some = omega arith

-- WHAT A PARTY DOES
module _ (w : Parties) (h : HasParties w) where
  coord_is : (d : ℕ) (x : CoordNode) → coord_at w d ≡ Some x → (is_dc w.layout d ≡ true) × HasCoordNode x
  coord_is d x is =
      on_cond (λ (z : Option CoordNode). z ≡ Some x → (is_dc w.layout d ≡ true) × HasCoordNode x) (is_dc w.layout d) (slice_get w.coords (coord_index d)) None
      (λ dc e. (dc, all_get HasCoordNode w.coords (coord_index d) x h.coords e)) (λ _ e. never x e) is

  shard_is : (d sh : ℕ) (x : ShardNode) → shard_at w d sh ≡ Some x → (is_shard_of w.layout d sh ≡ true) × HasShardNode x
  shard_is d sh x is =
      on_cond (λ (z : Option ShardNode). z ≡ Some x → (is_shard_of w.layout d sh ≡ true) × HasShardNode x) (is_shard_of w.layout d sh) (slice_get w.shards (shard_index w.layout d sh)) None
      (λ there e. (there, all_get HasShardNode w.shards (shard_index w.layout d sh) x h.shards e)) (λ _ e. never x e) is

  coord_speaks : (d : ℕ) (x : CoordNode) (cause : NodeCause) → is_dc w.layout d ≡ true → HasCoordNode x → HasNodeCause cause → HasDeed (by_coord w.layout d x cause)
  coord_speaks d x cause dc own why = (own.log, own.durable, coords_speak w.layout h.layout d dc x.durable own.durable x.volatile own.volatile cause why)

  shard_speaks : (d sh : ℕ) (x : ShardNode) (cause : NodeCause) → is_shard_of w.layout d sh ≡ true → HasShardNode x → HasNodeCause cause → HasDeed (by_shard w.layout d sh x cause)
  shard_speaks d sh x cause there own why = (
    own.log,
    own.durable,
    shards_speak w.layout h.layout d sh (and_left (is_dc w.layout d) (is_shard w.layout sh) there) (and_right (is_dc w.layout d) (is_shard w.layout sh) there)
        x.durable own.durable x.volatile own.volatile cause why,
  )

  by_coord_has : (d : ℕ) (cause : NodeCause) → HasNodeCause cause → HasDeed (coord_does w d cause)
  by_coord_has d cause why =
      on_maybe HasDeed (coord_at w d) Idle _ (λ _. tt)
      (λ x is. let k = coord_is d x is in on_cond HasDeed x.up (by_coord w.layout d x cause) Idle (λ _. coord_speaks d x cause k.0 k.1 why) (λ _. tt))

  by_shard_has : (d sh : ℕ) (cause : NodeCause) → HasNodeCause cause → HasDeed (shard_does w d sh cause)
  by_shard_has d sh cause why =
      on_maybe HasDeed (shard_at w d sh) Idle _ (λ _. tt)
      (λ x is. let k = shard_is d sh x is in on_cond HasDeed x.up (by_shard w.layout d sh x cause) Idle (λ _. shard_speaks d sh x cause k.0 k.1 why) (λ _. tt))

  by_client_has : (t : ℕ) (cause : ClientCause) → IsTxNumber t → HasClientCause cause → HasDeed (client_does w t cause)
  by_client_has t cause tx why =
      on_maybe HasDeed (found nat_cmp w.clients t) Idle (λ x. ByClient t (client_act w.layout t x cause)) (λ _. tt)
      (λ x is. clients_speak w.layout h.layout t tx x (all_found nat_cmp HasClient w.clients t x (all_alike HasClientOf (λ (e : ℕ × Client). HasClient e.1) (λ e p. p.1) w.clients h.clients) is) cause why)

  received_has : (e : Envelope) (to : Party) → HasEnvelope e → IsPartyName to → HasDeed (received w e to)
  received_has e (Node (Coord d)) own name = by_coord_has d (Came e.from e.msg) (own.from, own.msg)
  received_has e (Node (ShardServer d sh)) own name = by_shard_has d sh (Came e.from e.msg) (own.from, own.msg)
  received_has e (ClientOf t) own name = by_client_has t (Hears e.msg) name own.msg

  catches_has : (node : NodeId) → HasDeed (catches w node)
  catches_has (Coord d) = by_coord_has d Catches tt
  catches_has (ShardServer d sh) = by_shard_has d sh Catches tt

  stops_has : (node : NodeId) → HasDeed (stops w node)
  stops_has (Coord d) = on_maybe HasDeed (coord_at w d) Idle (λ x. CoordStops d x None) (λ _. tt) (λ x is. let k = coord_is d x is in (k.1.log, k.1.durable, tt))
  stops_has (ShardServer d sh) = on_maybe HasDeed (shard_at w d sh) Idle (λ x. ShardStops d sh x None) (λ _. tt) (λ x is. let k = shard_is d sh x is in (k.1.log, k.1.durable, tt))

  restarts_has : (node : NodeId) → HasDeed (restarts w node)
  restarts_has (Coord d) =
      on_maybe HasDeed (coord_at w d) Idle (λ x. by_coord w.layout d (coord_started x.log) Catches) (λ _. tt)
      (λ x is. let k = coord_is d x is in coord_speaks d (coord_started x.log) Catches k.0 (coord_starts x.log k.1.log) tt)
  restarts_has (ShardServer d sh) =
      on_maybe HasDeed (shard_at w d sh) Idle (λ x. by_shard w.layout d sh (shard_started x.log) Catches) (λ _. tt)
      (λ x is. let k = shard_is d sh x is in shard_speaks d sh (shard_started x.log) Catches k.0 (shard_starts x.log k.1.log) tt)

  begin_has : (e : Event) → HasEvent e → HasParties (after_begin w e)
  begin_has (Begin t) own = record {
    layout = h.layout;
    coords = h.coords;
    shards = h.shards;
    clients = all_put nat_cmp HasClientOf w.clients t new_client h.clients (own, new_has) (λ e p. (p.0, new_has));
  }
    where
      new_has : HasClient new_client
      new_has = record { few = omega arith; apart = tt; slots = tt; lasting = λ p. absurd (cc) }
  begin_has (Read t k) own = h
  begin_has (Write t k value) own = h
  begin_has (Commit t) own = h
  begin_has (Cancel t k) own = h
  begin_has (Retry t) own = h
  begin_has (Vanish t) own = h
  begin_has (Take d t) own = h
  begin_has (Catch node) own = h
  begin_has (Deliver n) own = h
  begin_has (Lose n) own = h
  begin_has (Crash node) own = h
  begin_has (CrashAt node k pick) own = h
  begin_has (Restart node) own = h

-- AN EVENT
message_has : (sent : List Envelope) (n : ℕ) (e : Envelope) → AllByRecursion HasEnvelope sent → message sent n ≡ Some e → HasEnvelope e
message_has sent n e h is =
    on_cond (λ (z : Option Envelope). z ≡ Some e → HasEnvelope e) (n == 0) None (slice_get sent (n - 1)) (λ _ at. never e at) (λ _ at. all_get HasEnvelope sent (n - 1) e h at) is

module _ (w : World) (h : HasWorld w) where
  deed_has : (e : Event) → HasEvent e → HasDeed (deed w.parties w.sent e)
  deed_has (Begin t) own = tt
  deed_has (Read t k) own = by_client_has w.parties h.parties t (Reads k) own.0 own.1
  deed_has (Write t k value) own = by_client_has w.parties h.parties t (Writes k value) own.0 (own.1, own.2)
  deed_has (Commit t) own = by_client_has w.parties h.parties t Commits own tt
  deed_has (Cancel t k) own = by_client_has w.parties h.parties t (Cancels k) own.0 own.1
  deed_has (Retry t) own = by_client_has w.parties h.parties t Retries own tt
  deed_has (Vanish t) own = by_client_has w.parties h.parties t Vanishes own tt
  deed_has (Take d t) own = by_coord_has w.parties h.parties d (Takes t) own.1
  deed_has (Catch node) own = catches_has w.parties h.parties node
  deed_has (Deliver n) own =
      on_maybe HasDeed (message w.sent n) Idle (λ e. received w.parties e e.to) (λ _. tt)
      (λ e is. let k = message_has w.sent n e h.sent is in received_has w.parties h.parties e e.to k k.to)
  deed_has (Lose n) own = tt
  deed_has (Crash node) own = stops_has w.parties h.parties node
  deed_has (CrashAt node k pick) own = tt
  deed_has (Restart node) own = restarts_has w.parties h.parties node

  -- who says something has a name
  named : (course : Course) (e : Event) → HasEvent e → 0 < length (sends_of (course_deed w e course)) → IsPartyName (actor w.sent e)
  named course (Begin t) own some = own
  named course (Read t k) own some = own.0
  named course (Write t k value) own some = own.0
  named course (Commit t) own some = own
  named course (Cancel t k) own some = own.0
  named course (Retry t) own some = own
  named course (Vanish t) own some = own
  named course (Take d t) own some = own.0
  named course (Catch node) own some = own
  named course (Deliver n) own some = go (message w.sent n) (λ e is. message_has w.sent n e h.sent is) some
    where
      go : (o : Option Envelope) → ((e : Envelope) → o ≡ Some e → HasEnvelope e) → 0 < length (sends_of (along course (maybe o Idle (λ e. received w.parties e e.to))))
          → IsPartyName (maybe o (client_of 0) (λ e. e.to))
      go None each some = absurd (idle_says course some)
      go (Some e) each some = (each e refl).to
  named course (Lose n) own some = absurd (idle_says course some)
  named course (Crash node) own some = own
  named course (CrashAt node k pick) own some = own
  named course (Restart node) own some = own

envelopes_have : (from : Party) (ms : Posts) → HasPosts ms → (0 < length ms → IsPartyName from) → AllByRecursion HasEnvelope (envelopes from ms)
envelopes_have from [] h name = tt
envelopes_have from (m ∷ ms) h name =
    (record { from = name (omega arith); to = h.0.0; msg = h.0.1 }, envelopes_have from ms h.1 (λ some. name (omega arith)))

-- THE LAWS
pub worlds_step : (w : World) → HasWorld w → (e : Event) → HasEvent e → (course : Course) → HasWorld (step w e course)
worlds_step w h e own course =
    let d = along_has course (deed w.parties w.sent e) (deed_has w h e own) in
    record {
      parties = parties_have (after_begin w.parties e) (course_deed w e course) (begin_has w.parties h.parties e own) d;
      sent = all_both HasEnvelope w.sent (envelopes (actor w.sent e) (sends_of (course_deed w e course))) h.sent
          (envelopes_have (actor w.sent e) (sends_of (course_deed w e course)) (deed_speaks (course_deed w e course) d).sends (named w h course e own));
    }

pub deeds_speak : (w : World) → HasWorld w → (e : Event) → HasEvent e → (course : Course) → DeedSpeaks (course_deed w e course)
deeds_speak w h e own course = deed_speaks (course_deed w e course) (along_has course (deed w.parties w.sent e) (deed_has w h e own))

pub new_worlds : (c : Layout) → IsLayout c → HasWorld (new_world c)
new_worlds c hc = record {
  parties = record {
    layout = hc;
    coords = all_replicate HasCoordNode c.dcs (coord_started []) (coord_starts [] tt);
    shards = all_replicate HasShardNode (c.dcs * c.shards) (shard_started []) (shard_starts [] tt);
    clients = tt;
  };
  sent = tt;
}

pub started_worlds : (c : Layout) → IsLayout c → (start : Start) → (coords shards : List (List Record)) → AllByRecursion HasLog coords → AllByRecursion HasLog shards
    → HasWorld (started_world c start (map coord_started coords) (map shard_started shards))
started_worlds c hc start coords shards p q = record {
  parties = record {
    layout = hc;
    coords = all_map HasLog HasCoordNode coord_started coord_starts coords p;
    shards = all_map HasLog HasShardNode shard_started shard_starts shards q;
    clients = tt;
  };
  sent = tt;
}
