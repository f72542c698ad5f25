-- What laws speak of, the parties and the messages sent; the eight kinds of moves that change it; and that a run is made of them.
use Rattle.std.proofs.Common.{◌≡◌, ℕ, List, [], ◌∷◌, ◌++◌, refl, sym, ap, ◌∙◌, subst, Bool, true, false, cond, Option, Some, None, true≢false}
use Rattle.std.specs.Prelude.{◌&&◌, is_none, ◌==◌, ◌-◌}
use Rattle.std.specs.Ordering.{nat_cmp}
use Rattle.std.proofs.lemmas.List.{append-nil}
use Rattle.rc_ids.specs.Tables.{Table, In, found, maybe}
use Rattle.rc_ids.specs.declared.names.NodeId.{NodeId}
use Rattle.rc_ids.specs.declared.names.NodeId.TheVariants.{Coord, Shard as ShardServer}
use Rattle.rc_ids.specs.declared.names.Party.{Party}
use Rattle.rc_ids.specs.declared.names.Party.TheVariants.{Node, Client as ClientOf}
use Rattle.rc_msg.specs.declared.msg.Envelope.{Envelope}
use Rattle.rc_record.specs.declared.record.Record.{Record}
use Rattle.rc_report.specs.declared.fault.Wrong.{Wrong}
use Rattle.rc_report.specs.declared.fault.Wrong.TheVariants.{BegunTwice}
use Rattle.rc_runs.specs.declared.event.Event.{Event}
use Rattle.rc_runs.specs.declared.event.Event.TheVariants.{Begin, Read, Write, Commit, Cancel, Retry, Vanish, Take, Catch, Deliver, Lose, Crash, CrashAt, Restart}
use Rattle.rc_protocol.specs.Messages.{coordinator, shard_server, client_of}
use Rattle.rc_protocol.specs.Shard.{ShardAct, do_catch as shard_catches, new_volatile as new_shard_volatile}
use Rattle.rc_protocol.specs.Coordinator.{CoordAct, do_catch as coord_catches, new_volatile as new_coord_volatile}
use Rattle.rc_protocol.specs.Client.{Client, ClientAct, ClientRefusal, NotOpen, is_open}
use Rattle.rc_protocol.specs.Acts.{NodeCause, Came, Takes, Catches, coord_act, shard_act, ClientCause, Hears, Reads, Writes, Commits, Cancels, Retries, Vanishes, client_by_row, client_act, if_open, if_room, refusal}
use Rattle.rc_protocol.specs.Nodes.{CoordNode, ShardNode, coord_index, shard_index, coord_started, shard_started, coord_after, shard_after, coord_stopped, shard_stopped}
use Rattle.rc_runs.specs.World.{World, Parties, Deed, Idle, ByClient, ByCoord, ByShard, CoordStops, ShardStops, Course, Goes, Stops, coord_at, shard_at, message, received, coord_does, shard_does, client_does, catches, stops, restarts, along, envelopes, with_client, with_coord, with_shard, with_new_client, at_deed, after_deed, step}
use Rattle.rc_runs.specs.Refusals.{Happening, wrong, is_begun, is_event, after_event, run}
use Rattle.rc_agreement.proofs.Cases.{on_cond, on_maybe, never}
use Rattle.rc_agreement.proofs.Tables.{got_in, set_set, set_itself}
use Rattle.rc_agreement.proofs.Places.{node_at, server_at, node_is, server_is, coord_set, shard_set}

pub record Scene : Type 0 where
  pub parties : Parties
  pub sent : List Envelope

abbrev pub scene : World → Scene
scene w = record { parties = w.parties; sent = w.sent }

abbrev pub at : Scene → ℕ → CoordNode
at s d = node_at s.parties d

abbrev pub shard_in : Scene → ℕ → ℕ → ShardNode
shard_in s d sh = server_at s.parties d sh

-- the node is in the world
abbrev pub There : Scene → ℕ → Type 0
There s d = coord_at s.parties d ≡ Some (at s d)

abbrev pub ThereIs : Scene → ℕ → ℕ → Type 0
ThereIs s d sh = shard_at s.parties d sh ≡ Some (shard_in s d sh)

-- WHY A PARTY ACTS. What comes to it was sent to it; a shard server takes nothing over
abbrev pub Due : Scene → ℕ → NodeCause → Type 0
Due s d (Came from m) = In (record { from = from; to = coordinator d; msg = m }) s.sent
Due s d (Takes t) = Unit {0}
Due s d Catches = Unit {0}

abbrev pub act_of : Scene → ℕ → NodeCause → CoordAct
act_of s d k = coord_act s.parties.layout d (at s d).durable (at s d).volatile k

abbrev pub DueTo : Scene → ℕ → ℕ → NodeCause → Type 0
DueTo s d sh (Came from m) = In (record { from = from; to = shard_server d sh; msg = m }) s.sent
DueTo s d sh (Takes t) = ⊥
DueTo s d sh Catches = Unit {0}

abbrev pub shard_act_of : Scene → ℕ → ℕ → NodeCause → ShardAct
shard_act_of s d sh k = shard_act s.parties.layout d sh (shard_in s d sh).durable (shard_in s d sh).volatile k

abbrev pub DueFor : Scene → ℕ → Client → ClientCause → Type 0
DueFor s t x (Hears m) = (from : Party) × In (record { from = from; to = client_of t; msg = m }) s.sent
DueFor s t x (Reads k) = is_open x.phase ≡ true
DueFor s t x (Writes k value) = is_open x.phase ≡ true
DueFor s t x Commits = is_open x.phase ≡ true
DueFor s t x (Cancels k) = is_open x.phase ≡ true
DueFor s t x Retries = Unit {0}
DueFor s t x Vanishes = Unit {0}

-- THE MOVES
abbrev pub turned : Scene → ℕ → CoordAct → Scene
turned s d a = record { parties = with_coord s.parties d (coord_after (at s d) a) a.logs; sent = s.sent ++ envelopes (coordinator d) a.sends }

abbrev pub stopped : Scene → ℕ → Option Record → Scene
stopped s d r = record { parties = with_coord s.parties d (coord_stopped (at s d) r) r; sent = s.sent }

abbrev pub started : Scene → ℕ → Scene
started s d = record { parties = with_coord s.parties d (coord_started (at s d).log) None; sent = s.sent }

abbrev pub served : Scene → ℕ → ℕ → ShardAct → Scene
served s d sh a = record { parties = with_shard s.parties d sh (shard_after (shard_in s d sh) a); sent = s.sent ++ envelopes (shard_server d sh) a.sends }

abbrev pub halted : Scene → ℕ → ℕ → Option Record → Scene
halted s d sh r = record { parties = with_shard s.parties d sh (shard_stopped (shard_in s d sh) r); sent = s.sent }

abbrev pub woken : Scene → ℕ → ℕ → Scene
woken s d sh = record { parties = with_shard s.parties d sh (shard_started (shard_in s d sh).log); sent = s.sent }

abbrev pub joined_by : Scene → ℕ → Scene
joined_by s t = record { parties = with_new_client s.parties t; sent = s.sent }

abbrev pub acted : Scene → ℕ → ClientAct → Scene
acted s t a = record { parties = with_client s.parties t a.after; sent = s.sent ++ envelopes (client_of t) a.sends }

-- what a node that stops adds to its log: nothing, or the record of an act
pub data Half (s : Scene) (d : ℕ) : Option Record → Type 0 where
  Nothing : Half s d None
  Whole : (k : NodeCause) → Due s d k → Half s d (act_of s d k).logs

pub data ShardHalf (s : Scene) (d sh : ℕ) : Option Record → Type 0 where
  Naught : ShardHalf s d sh None
  Entire : (k : NodeCause) → DueTo s d sh k → ShardHalf s d sh (shard_act_of s d sh k).logs

-- THE PRINCIPLE: each kind of move keeps P
pub record Keeps (P : Scene → Type 0) : Type 0 where
  pub turns : (s : Scene) (d : ℕ) (k : NodeCause) → There s d → Due s d k → P s → P (turned s d (act_of s d k))
  pub stops : (s : Scene) (d : ℕ) (r : Option Record) → There s d → Half s d r → P s → P (stopped s d r)
  pub starts : (s : Scene) (d : ℕ) → There s d → P s → P (started s d)
  pub serves : (s : Scene) (d sh : ℕ) (k : NodeCause) → ThereIs s d sh → DueTo s d sh k → P s → P (served s d sh (shard_act_of s d sh k))
  pub halts : (s : Scene) (d sh : ℕ) (r : Option Record) → ThereIs s d sh → ShardHalf s d sh r → P s → P (halted s d sh r)
  pub wakes : (s : Scene) (d sh : ℕ) → ThereIs s d sh → P s → P (woken s d sh)
  pub begins : (s : Scene) (t : ℕ) → is_begun s.parties t ≡ false → P s → P (joined_by s t)
  pub clients : (s : Scene) (t : ℕ) (x : Client) (k : ClientCause) → found nat_cmp s.parties.clients t ≡ Some x → DueFor s t x k → P s → P (acted s t (client_by_row s.parties.layout t x k))

message_in : (sent : List Envelope) (n : ℕ) (e : Envelope) → message sent n ≡ Some e → In e sent
message_in sent n e = on_cond (λ o. o ≡ Some e → In e sent) (n == 0) None _ (λ _ is. never e is) (λ _ is. got_in sent (n - 1) e is)

-- what a client hears was sent to it
abbrev IsAsked : Scene → ℕ → Client → ClientCause → Type 0
IsAsked s t x (Hears m) = (from : Party) × In (record { from = from; to = client_of t; msg = m }) s.sent
IsAsked s t x k = Unit {0}

-- what is not refused is asked of a client that is open
open_of : (x : Client) (reason : Option ClientRefusal) → if_open x reason ≡ None → is_open x.phase ≡ true
open_of x reason = on_cond (λ o. o ≡ None → is_open x.phase ≡ true) (is_open x.phase) reason (Some NotOpen) (λ is _. is) (λ _ h. never _ (sym h))

module _ (P : Scene → Type 0) (m : Keeps P) where
  -- after the deed of this party, v being the world as the event begins
  abbrev Q : World → Party → Course → Deed → Type 0
  Q v from course d = P (scene (after_deed v from (along course d)))

  no_more : (w : Parties) (sent : List Envelope) → P (record { parties = w; sent = sent }) → P (record { parties = w; sent = sent ++ [] })
  no_more w sent p = subst (λ (l : List Envelope). P (record { parties = w; sent = l })) (sym (append-nil sent)) p

  rests : (v : World) (from : Party) (course : Course) → P (scene v) → Q v from course Idle
  rests v from Goes p = no_more v.parties v.sent p
  rests v from (Stops kept) p = no_more v.parties v.sent p

  -- COORDINATORS
  coord_turn : (v : World) (course : Course) (d : ℕ) (k : NodeCause) → There (scene v) d → Due (scene v) d k → P (scene v)
      → Q v (coordinator d) course (ByCoord d (at (scene v) d) (act_of (scene v) d k))
  coord_turn v Goes d k there due p = m.turns (scene v) d k there due p
  coord_turn v (Stops kept) d k there due p =
      on_maybe (λ x. P (scene (after_deed v (coordinator d) x))) (act_of (scene v) d k).logs _ _
      (λ _. m.turns (scene v) d k there due p)
      (λ r is. no_more _ v.sent (which kept r is))
    where
      which : (kept : Bool) (r : Record) → (act_of (scene v) d k).logs ≡ Some r → P (stopped (scene v) d (cond kept (Some r) None))
      which true r is = m.stops (scene v) d (Some r) there (subst (Half (scene v) d) is (Whole k due)) p
      which false r is = m.stops (scene v) d None there Nothing p

  coord_does_keeps : (v : World) (course : Course) (d : ℕ) (k : NodeCause) → Due (scene v) d k → P (scene v)
      → Q v (coordinator d) course (coord_does v.parties d k)
  coord_does_keeps v course d k due p =
      on_maybe (Q v (coordinator d) course) (coord_at v.parties d) _ _
      (λ _. rests v (coordinator d) course p)
      (λ x is. on_cond (Q v (coordinator d) course) x.up _ _
      (λ _. let same = node_is v.parties d x is in
      subst (λ (y : CoordNode). Q v (coordinator d) course (ByCoord d y (coord_act v.parties.layout d y.durable y.volatile k))) same (coord_turn v course d k (is ∙ ap Some (sym same)) due p))
      (λ _. rests v (coordinator d) course p))

  coord_stop : (v : World) (course : Course) (d : ℕ) → P (scene v) → Q v (coordinator d) course (stops v.parties (Coord d))
  coord_stop v course d p =
      on_maybe (Q v (coordinator d) course) (coord_at v.parties d) _ _
      (λ _. rests v (coordinator d) course p)
      (λ x is. either course x is)
    where
      now : (x : CoordNode) → coord_at v.parties d ≡ Some x → P (record { parties = with_coord v.parties d (coord_stopped x None) None; sent = v.sent })
      now x is = let same = node_is v.parties d x is in
          subst (λ (y : CoordNode). P (record { parties = with_coord v.parties d (coord_stopped y None) None; sent = v.sent })) same (m.stops (scene v) d None (is ∙ ap Some (sym same)) Nothing p)

      either : (course : Course) (x : CoordNode) → coord_at v.parties d ≡ Some x → Q v (coordinator d) course (CoordStops d x None)
      either Goes x is = no_more _ v.sent (now x is)
      either (Stops kept) x is = no_more _ v.sent (now x is)

  coord_restart : (v : World) (course : Course) (d : ℕ) → P (scene v) → Q v (coordinator d) course (restarts v.parties (Coord d))
  coord_restart v course d p =
      on_maybe (Q v (coordinator d) course) (coord_at v.parties d) _ _
      (λ _. rests v (coordinator d) course p)
      (λ x is. either course x is)
    where
      -- it starts, and then catches up
      twice : (x : CoordNode) → coord_at v.parties d ≡ Some x → P (scene (after_deed v (coordinator d) (ByCoord d (coord_started x.log) (coord_catches v.parties.layout d new_coord_volatile))))
      twice x is =
          let same = node_is v.parties d x is in
          let there : There (scene v) d = is ∙ ap Some (sym same) in
          let s : Scene = started (scene v) d in
          let new : coord_at s.parties d ≡ Some (coord_started (at (scene v) d).log) = coord_set v.parties d (at (scene v) d) (coord_started (at (scene v) d).log) None there in
          let new_is = node_is s.parties d (coord_started (at (scene v) d).log) new in
          let p2 = m.turns s d Catches (new ∙ ap Some (sym new_is)) tt (m.starts (scene v) d there p) in
          let act : CoordNode → CoordAct = λ (y : CoordNode). coord_catches v.parties.layout d y.volatile in
          let p3 = subst (λ (y : CoordNode). P (record { parties = with_coord s.parties d (coord_after y (coord_catches v.parties.layout d y.volatile)) None; sent = v.sent ++ envelopes (coordinator d) (coord_catches v.parties.layout d y.volatile).sends })) new_is p2 in
          let p4 = subst (λ (cs : List CoordNode). P (record {
            parties = record v.parties { coords = cs };
            sent = v.sent ++ envelopes (coordinator d) (coord_catches v.parties.layout d new_coord_volatile).sends;
          })) (set_set v.parties.coords (coord_index d) (coord_started (at (scene v) d).log) (coord_after (coord_started (at (scene v) d).log) (coord_catches v.parties.layout d new_coord_volatile))) p3 in
          subst (λ (y : CoordNode). P (scene (after_deed v (coordinator d) (ByCoord d (coord_started y.log) (coord_catches v.parties.layout d new_coord_volatile))))) same p4

      either : (course : Course) (x : CoordNode) → coord_at v.parties d ≡ Some x → Q v (coordinator d) course (ByCoord d (coord_started x.log) (coord_catches v.parties.layout d new_coord_volatile))
      either Goes x is = twice x is
      either (Stops kept) x is = twice x is

  -- SHARD SERVERS
  shard_turn : (v : World) (course : Course) (d sh : ℕ) (k : NodeCause) → ThereIs (scene v) d sh → DueTo (scene v) d sh k → P (scene v)
      → Q v (shard_server d sh) course (ByShard d sh (shard_in (scene v) d sh) (shard_act_of (scene v) d sh k))
  shard_turn v Goes d sh k there due p = m.serves (scene v) d sh k there due p
  shard_turn v (Stops kept) d sh k there due p =
      on_maybe (λ x. P (scene (after_deed v (shard_server d sh) x))) (shard_act_of (scene v) d sh k).logs _ _
      (λ _. m.serves (scene v) d sh k there due p)
      (λ r is. no_more _ v.sent (which kept r is))
    where
      which : (kept : Bool) (r : Record) → (shard_act_of (scene v) d sh k).logs ≡ Some r → P (halted (scene v) d sh (cond kept (Some r) None))
      which true r is = m.halts (scene v) d sh (Some r) there (subst (ShardHalf (scene v) d sh) is (Entire k due)) p
      which false r is = m.halts (scene v) d sh None there Naught p

  shard_does_keeps : (v : World) (course : Course) (d sh : ℕ) (k : NodeCause) → DueTo (scene v) d sh k → P (scene v)
      → Q v (shard_server d sh) course (shard_does v.parties d sh k)
  shard_does_keeps v course d sh k due p =
      on_maybe (Q v (shard_server d sh) course) (shard_at v.parties d sh) _ _
      (λ _. rests v (shard_server d sh) course p)
      (λ x is. on_cond (Q v (shard_server d sh) course) x.up _ _
      (λ _. let same = server_is v.parties d sh x is in
      subst (λ (y : ShardNode). Q v (shard_server d sh) course (ByShard d sh y (shard_act v.parties.layout d sh y.durable y.volatile k))) same (shard_turn v course d sh k (is ∙ ap Some (sym same)) due p))
      (λ _. rests v (shard_server d sh) course p))

  shard_stop : (v : World) (course : Course) (d sh : ℕ) → P (scene v) → Q v (shard_server d sh) course (stops v.parties (ShardServer d sh))
  shard_stop v course d sh p =
      on_maybe (Q v (shard_server d sh) course) (shard_at v.parties d sh) _ _
      (λ _. rests v (shard_server d sh) course p)
      (λ x is. either course x is)
    where
      now : (x : ShardNode) → shard_at v.parties d sh ≡ Some x → P (record { parties = with_shard v.parties d sh (shard_stopped x None); sent = v.sent })
      now x is = let same = server_is v.parties d sh x is in
          subst (λ (y : ShardNode). P (record { parties = with_shard v.parties d sh (shard_stopped y None); sent = v.sent })) same (m.halts (scene v) d sh None (is ∙ ap Some (sym same)) Naught p)

      either : (course : Course) (x : ShardNode) → shard_at v.parties d sh ≡ Some x → Q v (shard_server d sh) course (ShardStops d sh x None)
      either Goes x is = no_more _ v.sent (now x is)
      either (Stops kept) x is = no_more _ v.sent (now x is)

  shard_restart : (v : World) (course : Course) (d sh : ℕ) → P (scene v) → Q v (shard_server d sh) course (restarts v.parties (ShardServer d sh))
  shard_restart v course d sh p =
      on_maybe (Q v (shard_server d sh) course) (shard_at v.parties d sh) _ _
      (λ _. rests v (shard_server d sh) course p)
      (λ x is. either course x is)
    where
      twice : (x : ShardNode) → shard_at v.parties d sh ≡ Some x → P (scene (after_deed v (shard_server d sh) (ByShard d sh (shard_started x.log) (shard_catches d new_shard_volatile))))
      twice x is =
          let same = server_is v.parties d sh x is in
          let there : ThereIs (scene v) d sh = is ∙ ap Some (sym same) in
          let s : Scene = woken (scene v) d sh in
          let new : shard_at s.parties d sh ≡ Some (shard_started (shard_in (scene v) d sh).log) = shard_set v.parties d sh (shard_in (scene v) d sh) (shard_started (shard_in (scene v) d sh).log) there in
          let new_is = server_is s.parties d sh (shard_started (shard_in (scene v) d sh).log) new in
          let p2 = m.serves s d sh Catches (new ∙ ap Some (sym new_is)) tt (m.wakes (scene v) d sh there p) in
          let p3 = subst (λ (y : ShardNode). P (record { parties = with_shard s.parties d sh (shard_after y (shard_catches d y.volatile)); sent = v.sent ++ envelopes (shard_server d sh) (shard_catches d y.volatile).sends })) new_is p2 in
          let p4 = subst (λ (ss : List ShardNode). P (record {
            parties = record v.parties { shards = ss };
            sent = v.sent ++ envelopes (shard_server d sh) (shard_catches d new_shard_volatile).sends;
          })) (set_set v.parties.shards (shard_index v.parties.layout d sh) (shard_started (shard_in (scene v) d sh).log) (shard_after (shard_started (shard_in (scene v) d sh).log) (shard_catches d new_shard_volatile))) p3 in
          subst (λ (y : ShardNode). P (scene (after_deed v (shard_server d sh) (ByShard d sh (shard_started y.log) (shard_catches d new_shard_volatile))))) same p4

      either : (course : Course) (x : ShardNode) → shard_at v.parties d sh ≡ Some x → Q v (shard_server d sh) course (ByShard d sh (shard_started x.log) (shard_catches d new_shard_volatile))
      either Goes x is = twice x is
      either (Stops kept) x is = twice x is

  -- CLIENTS
  -- a client that is open does what its command asks; one that refuses is as it was
  due_of : (v : World) (t : ℕ) (x : Client) (k : ClientCause) → IsAsked (scene v) t x k → refusal x k ≡ None → DueFor (scene v) t x k
  due_of v t x (Hears m) asked none = asked
  due_of v t x (Reads k) asked none = open_of x (if_room x k) none
  due_of v t x (Writes k value) asked none = open_of x (if_room x k) none
  due_of v t x Commits asked none = open_of x None none
  due_of v t x (Cancels k) asked none = open_of x None none
  due_of v t x Retries asked none = tt
  due_of v t x Vanishes asked none = tt

  client_turn : (v : World) (t : ℕ) (x : Client) (k : ClientCause) → found nat_cmp v.parties.clients t ≡ Some x → IsAsked (scene v) t x k → P (scene v)
      → P (acted (scene v) t (client_act v.parties.layout t x k))
  client_turn v t x k is asked p =
      on_maybe (λ a. P (acted (scene v) t a)) (refusal x k) _ _
      (λ none. m.clients (scene v) t x k is (due_of v t x k asked none) p)
      (λ reason _. subst (λ (cs : Table ℕ Client). P (record { parties = record v.parties { clients = cs }; sent = v.sent ++ [] })) (sym (set_itself t x v.parties.clients is)) (no_more v.parties v.sent p))

  client_does_keeps : (v : World) (course : Course) (t : ℕ) (k : ClientCause) → ((x : Client) → IsAsked (scene v) t x k) → P (scene v)
      → Q v (client_of t) course (client_does v.parties t k)
  client_does_keeps v course t k asked p =
      on_maybe (Q v (client_of t) course) (found nat_cmp v.parties.clients t) _ _
      (λ _. rests v (client_of t) course p)
      (λ x is. either course x is)
    where
      either : (course : Course) (x : Client) → found nat_cmp v.parties.clients t ≡ Some x → Q v (client_of t) course (ByClient t (client_act v.parties.layout t x k))
      either Goes x is = client_turn v t x k is (asked x) p
      either (Stops kept) x is = client_turn v t x k is (asked x) p

  -- EVENTS
  comes : (v : World) (course : Course) (e : Envelope) (to : Party) → In (record { from = e.from; to = to; msg = e.msg }) v.sent → P (scene v) → Q v to course (received v.parties e to)
  comes v course e (Node (Coord d)) h p = coord_does_keeps v course d (Came e.from e.msg) h p
  comes v course e (Node (ShardServer d sh)) h p = shard_does_keeps v course d sh (Came e.from e.msg) h p
  comes v course e (ClientOf t) h p = client_does_keeps v course t (Hears e.msg) (λ x. (e.from, h)) p

  catch_keeps : (v : World) (course : Course) (node : NodeId) → P (scene v) → Q v (Node node) course (catches v.parties node)
  catch_keeps v course (Coord d) p = coord_does_keeps v course d Catches tt p
  catch_keeps v course (ShardServer d sh) p = shard_does_keeps v course d sh Catches tt p

  stop_keeps : (v : World) (course : Course) (node : NodeId) → P (scene v) → Q v (Node node) course (stops v.parties node)
  stop_keeps v course (Coord d) p = coord_stop v course d p
  stop_keeps v course (ShardServer d sh) p = shard_stop v course d sh p

  restart_keeps : (v : World) (course : Course) (node : NodeId) → P (scene v) → Q v (Node node) course (restarts v.parties node)
  restart_keeps v course (Coord d) p = coord_restart v course d p
  restart_keeps v course (ShardServer d sh) p = shard_restart v course d sh p

  begin_keeps : (w : World) (t : ℕ) (course : Course) → wrong w (Begin t) ≡ None → P (scene w) → P (scene (step w (Begin t) course))
  begin_keeps w t course ok p =
      rests (at_deed w (Begin t)) (client_of t) course
      (on_cond (λ o. o ≡ None → P (joined_by (scene w) t)) (is_begun w.parties t) (Some (BegunTwice t)) None
      (λ _ h. never _ (sym h))
      (λ not_begun _. m.begins (scene w) t not_begun p) ok)

  pub step_keeps : (w : World) (e : Event) (course : Course) → wrong w e ≡ None → P (scene w) → P (scene (step w e course))
  step_keeps w (Begin t) course ok p = begin_keeps w t course ok p
  step_keeps w (Read t k) course ok p = client_does_keeps (at_deed w (Read t k)) course t (Reads k) (λ x. tt) p
  step_keeps w (Write t k value) course ok p = client_does_keeps (at_deed w (Write t k value)) course t (Writes k value) (λ x. tt) p
  step_keeps w (Commit t) course ok p = client_does_keeps (at_deed w (Commit t)) course t Commits (λ x. tt) p
  step_keeps w (Cancel t k) course ok p = client_does_keeps (at_deed w (Cancel t k)) course t (Cancels k) (λ x. tt) p
  step_keeps w (Retry t) course ok p = client_does_keeps (at_deed w (Retry t)) course t Retries (λ x. tt) p
  step_keeps w (Vanish t) course ok p = client_does_keeps (at_deed w (Vanish t)) course t Vanishes (λ x. tt) p
  step_keeps w (Take d t) course ok p = coord_does_keeps (at_deed w (Take d t)) course d (Takes t) tt p
  step_keeps w (Catch node) course ok p = catch_keeps (at_deed w (Catch node)) course node p
  step_keeps w (Deliver n) course ok p = go (message w.sent n) refl
    where
      go : (o : Option Envelope) → message w.sent n ≡ o → Q (at_deed w (Deliver n)) (maybe o (client_of 0) (λ e. e.to)) course (maybe o Idle (λ e. received w.parties e e.to))
      go None is = rests (at_deed w (Deliver n)) (client_of 0) course p
      go (Some e) is = comes (at_deed w (Deliver n)) course e e.to (message_in w.sent n e is) p
  step_keeps w (Lose n) course ok p = rests (at_deed w (Lose n)) (client_of 0) course p
  step_keeps w (Crash node) course ok p = stop_keeps (at_deed w (Crash node)) course node p
  step_keeps w (CrashAt node k pick) course ok p = rests (at_deed w (CrashAt node k pick)) (Node node) course p
  step_keeps w (Restart node) course ok p = restart_keeps (at_deed w (Restart node)) course node p

  no_name : (o : Option Wrong) (b : Bool) → (is_none o && b) ≡ true → o ≡ None
  no_name None b e = refl
  no_name (Some x) b e = absurd (true≢false (sym e))

  pub event_keeps : (w : World) (h : Happening) → P (scene w) → P (scene (after_event w h))
  event_keeps w h p =
      on_cond (λ v. P (scene v)) (is_event w h) _ _ (λ is. step_keeps w h.0 h.1 (no_name (wrong w h.0) _ is) p) (λ _. p)

  pub run_keeps : (w : World) (hs : List Happening) → P (scene w) → P (scene (run w hs))
  run_keeps w [] p = p
  run_keeps w (h ∷ hs) p = run_keeps (after_event w h) hs (event_keeps w h p)
