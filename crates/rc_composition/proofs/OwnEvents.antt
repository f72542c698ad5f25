-- What a post of a party is in the world.
use Rattle.std.proofs.Common.{◌≡◌, ℕ, Bool, false, cond, List, [], refl, sym, ap, ◌∙◌, subst, Option, Some, None}
use Rattle.std.specs.Prelude.{slice_get}
use Rattle.std.specs.Ordering.{nat_cmp}
use Rattle.rc_ids.specs.Tables.{found, member, maybe}
use Rattle.rc_ids.specs.Cluster.{Layout}
use Rattle.rc_ids.specs.declared.names.NodeId.{NodeId}
use Rattle.rc_ids.specs.declared.names.NodeId.TheVariants.{Coord, Shard}
use Rattle.rc_ids.specs.declared.names.Party.{Party}
use Rattle.rc_ids.specs.declared.names.Party.TheVariants.{Node, Client as ClientOf}
use Rattle.rc_net.specs.Network.{Message}
use Rattle.rc_net.specs.Network as net
use Rattle.rc_msg.specs.declared.msg.Envelope.{Envelope}
use Rattle.rc_report.specs.declared.fault.Wrong.TheVariants.{NotBegun, NotSent, Up, Vanished}
use Rattle.rc_protocol.specs.Client.{Client}
use Rattle.rc_protocol.specs.Acts.{ClientCause}
use Rattle.rc_protocol.specs.Nodes.{CoordNode, ShardNode}
use Rattle.rc_protocol.specs.Messages.{client_of}
use Rattle.rc_runs.specs.declared.event.Event.TheVariants.{Deliver, Restart}
use Rattle.rc_runs.specs.World.{World, Parties, coord_at, shard_at, is_up, Course, Goes, Stops, actor, along, after_begin, course_deed}
use Rattle.rc_runs.specs.World as world
use Rattle.rc_runs.specs.Refusals.{Happening, wrong, wrong_of, named_wrongly}
use Rattle.rc_wire.specs.declared.turn.StepEnd.{StepEnd}
use Rattle.rc_wire.specs.declared.turn.StepEnd.TheVariants.{Handled, Stopped, Restarted, Idle}
use Rattle.rc_wire.specs.declared.turn.Turn.{Turn}
use Rattle.rc_wire.specs.Standings.{standing}
use Rattle.rc_agreement.proofs.Cases.{never, some_is}
use Rattle.rc_composition.specs.declared.command.Command.{Command}
use Rattle.rc_composition.specs.declared.command.Command.TheVariants.{Read, Write, Cancel, Commit, Vanish}
use Rattle.rc_composition.specs.Composed.{Operations, event_by, delivery, restart_of, command_of, operation, commands_in, is_kept, event_of_post}
use Rattle.rc_composition.specs.Messages.{wire_message}
use Rattle.rc_composition.specs.Parts.{Part, OfCoord, OfShard, OfClient, NoPart, part_in, envelope_at, own_deed, does, is_running, refused_by, own_wrong}
use Rattle.rc_composition.specs.Steps.{IsTo}
use Rattle.rc_composition.proofs.Acting.{deeds_are_own}

-- a delivery of the open take, a restart of a node, or an operation of a client
pub data Kind (mine : List Turn) : Party → Happening → Type 0 where
  Hears : (p : Party) (n : ℕ) (course : Course) → (standing mine).unanswered ≡ Some n → Kind mine p (Deliver n, course)
  Starts : (node : NodeId) → Kind mine (Node node) (Restart node, Goes)
  Told : (t : ℕ) (k : Command) → Kind mine (ClientOf t) (event_by t k, Goes)

hears_kind : (mine : List Turn) (p : Party) (course : Course) (h : Happening) (o : Option ℕ) → (standing mine).unanswered ≡ o → delivery o course ≡ Some h → Kind mine p h
hears_kind mine p course h None open_take is = never h is
hears_kind mine p course h (Some n) open_take is = subst (Kind mine p) (some_is (Deliver n, course) h is) (Hears p n course open_take)

starts_kind : (mine : List Turn) (p : Party) (h : Happening) → restart_of p ≡ Some h → Kind mine p h
starts_kind mine (Node node) h is = subst (Kind mine (Node node)) (some_is (Restart node, Goes) h is) (Starts node)
starts_kind mine (ClientOf t) h is = never h is

told_kind : (mine : List Turn) (t : ℕ) (h : Happening) (o : Option Command) → command_of t o ≡ Some h → Kind mine (ClientOf t) h
told_kind mine t h None is = never h is
told_kind mine t h (Some k) is = subst (Kind mine (ClientOf t)) (some_is (event_by t k, Goes) h is) (Told t k)

operation_kind : (ops : Operations) (mine : List Turn) (p : Party) (h : Happening) → operation ops p (commands_in mine) ≡ Some h → Kind mine p h
operation_kind ops mine (Node node) h is = never h is
operation_kind ops mine (ClientOf t) h is = told_kind mine t h (slice_get (ops t) (commands_in mine)) is

pub kind_of : (ops : Operations) (p : Party) (mine : List Turn) (end : StepEnd) (later : List Turn) (h : Happening) → event_of_post ops p mine end later ≡ Some h → Kind mine p h
kind_of ops p mine Handled later h is = hears_kind mine p Goes h (standing mine).unanswered refl is
kind_of ops p mine Stopped later h is = hears_kind mine p (Stops (is_kept later)) h (standing mine).unanswered refl is
kind_of ops p mine (Restarted kept) later h is = starts_kind mine p h is
kind_of ops p mine Idle later h is = operation_kind ops mine p h is

-- WHAT IS REFUSED
running_of : {A : Type 0} (up : A → Bool) (make : A → Part) → ((x : A) → up x ≡ is_running (make x)) → (o : Option A) → maybe o false up ≡ is_running (maybe o NoPart make)
running_of up make same None = refl
running_of up make same (Some x) = same x

is_up_in : (w : Parties) (node : NodeId) → is_up w node ≡ is_running (part_in w (Node node))
is_up_in w (Coord d) = running_of (λ (x : CoordNode). x.up) (OfCoord d) (λ x. refl) (coord_at w d)
is_up_in w (Shard d s) = running_of (λ (x : ShardNode). x.up) (OfShard d s) (λ x. refl) (shard_at w d s)

refused_in : (w : Parties) (t : ℕ) (x : Client) (cause : ClientCause) → w.start.named ≡ [] → found nat_cmp w.clients t ≡ Some x
    → named_wrongly w t cause ≡ refused_by (part_in w (ClientOf t)) cause
refused_in w t x cause named is =
    ap (λ (ns : List ℕ). cond (member nat_cmp ns t) (Some (Vanished t)) (maybe (found nat_cmp w.clients t) (Some (NotBegun t)) (λ y. wrong_of t y cause))) named
    ∙ ap (λ (o : Option Client). maybe o (Some (NotBegun t)) (λ y. wrong_of t y cause)) is
    ∙ sym (ap (λ (o : Option Client). refused_by (maybe o NoPart (OfClient t)) cause) is)

told_wrong : (w : World) (t : ℕ) (x : Client) (k : Command) → w.parties.start.named ≡ [] → found nat_cmp w.parties.clients t ≡ Some x
    → wrong w (event_by t k) ≡ own_wrong (part_in w.parties (ClientOf t)) (event_by t k)
told_wrong w t x (Read k) named is = refused_in w.parties t x _ named is
told_wrong w t x (Write k value) named is = refused_in w.parties t x _ named is
told_wrong w t x (Cancel k) named is = refused_in w.parties t x _ named is
told_wrong w t x Commit named is = refused_in w.parties t x _ named is
told_wrong w t x Vanish named is = refused_in w.parties t x _ named is

told_actor : (sent : List Envelope) (t : ℕ) (k : Command) → actor sent (event_by t k) ≡ ClientOf t
told_actor sent t (Read k) = refl
told_actor sent t (Write k value) = refl
told_actor sent t (Cancel k) = refl
told_actor sent t Commit = refl
told_actor sent t Vanish = refl

told_begins : (w : Parties) (t : ℕ) (k : Command) → after_begin w (event_by t k) ≡ w
told_begins w t (Read k) = refl
told_begins w t (Write k value) = refl
told_begins w t (Cancel k) = refl
told_begins w t Commit = refl
told_begins w t Vanish = refl

-- WHAT IS DONE
-- the message of an open take, as the run has it and as the wire has it
pub record Mail (full : List Message) (sent : List Envelope) (n : ℕ) : Type 0 where
  pub e : Envelope
  pub here : world.message sent n ≡ Some e
  pub on_wire : net.message full n ≡ Some (wire_message e)
  pub reads : envelope_at full n ≡ Some e

-- the event is the party's own, as it does it by itself
pub record IsOwn (c : Layout) (full : List Message) (w : World) (p : Party) (h : Happening) : Type 0 where
  pub deed : course_deed w h.0 h.1 ≡ does c full (part_in w.parties p) h
  pub actor_is : actor w.sent h.0 ≡ p
  pub begins : after_begin w.parties h.0 ≡ w.parties
  pub wrong_is : wrong w h.0 ≡ own_wrong (part_in w.parties p) h.0

module _ (c : Layout) (full : List Message) (w : World) (layout : w.parties.layout ≡ c) (named : w.parties.start.named ≡ []) (mine : List Turn) where
  pub own_event : (p : Party) (h : Happening) → Kind mine p h → IsTo full p h.0 → ((n : ℕ) → (standing mine).unanswered ≡ Some n → Mail full w.sent n)
      → ((t : ℕ) → p ≡ ClientOf t → (x : Client) × (found nat_cmp w.parties.clients t ≡ Some x)) → IsOwn c full w p h
  own_event p h (Hears q n course open_take) to mail begun =
      let m = mail n open_take in
      let is : m.e.to ≡ q = to (wire_message m.e) m.on_wire in
      let own = (deeds_are_own w.parties w.sent full).delivery n m.e m.here m.reads in
      record {
        deed = ap (along course) own ∙ (λ j. along course (own_deed (layout j) full (part_in w.parties (is j)) (Deliver n)));
        actor_is = ap (λ (o : Option Envelope). maybe o (client_of 0) (λ e. e.to)) m.here ∙ is;
        begins = refl;
        wrong_is = ap (λ (o : Option Envelope). maybe o (Some (NotSent n)) (λ e. None)) m.here;
      }
  own_event p h (Starts node) to mail begun = record {
    deed = (deeds_are_own w.parties w.sent full).restart node ∙ ap (λ (k : Layout). own_deed k full (part_in w.parties (Node node)) (Restart node)) layout;
    actor_is = refl;
    begins = refl;
    wrong_is = ap (λ (b : Bool). cond b (Some (Up node)) None) (is_up_in w.parties node);
  }
  own_event p h (Told t k) to mail begun =
      let x = begun t refl in
      record {
        deed = (deeds_are_own w.parties w.sent full).command t k ∙ ap (λ (l : Layout). own_deed l full (part_in w.parties (ClientOf t)) (event_by t k)) layout;
        actor_is = told_actor w.sent t k;
        begins = told_begins w.parties t k;
        wrong_is = told_wrong w t x.0 k named x.1;
      }
