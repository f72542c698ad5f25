-- What a party does by itself is what it does in the world.
use Rattle.std.proofs.Common.{◌≡◌, ℕ, List, refl, sym, ap, ◌∙◌, Option, Some, None}
use Rattle.std.specs.Ordering.{nat_cmp}
use Rattle.rc_ids.specs.Tables.{found, maybe}
use Rattle.rc_ids.specs.declared.names.NodeId.{NodeId}
use Rattle.rc_ids.specs.declared.names.NodeId.TheVariants.{Coord, Shard}
use Rattle.rc_ids.specs.declared.names.Party.{Party}
use Rattle.rc_ids.specs.declared.names.Party.TheVariants.{Node, Client as ClientOf}
use Rattle.rc_net.specs.Network.{Message}
use Rattle.rc_msg.specs.declared.msg.Envelope.{Envelope}
use Rattle.rc_protocol.specs.Acts.{ClientCause}
use Rattle.rc_runs.specs.declared.event.Event.TheVariants.{Deliver}
use Rattle.rc_runs.specs.World.{Parties, coord_at, shard_at, Deed, Idle, received, restarts, client_does, deed, message}
use Rattle.rc_composition.specs.declared.command.Command.{Command}
use Rattle.rc_composition.specs.declared.command.Command.TheVariants.{Read, Write, Cancel, Commit, Vanish}
use Rattle.rc_composition.specs.Composed.{event_by}
use Rattle.rc_composition.specs.Parts.{Part, OfCoord, OfShard, OfClient, NoPart, part_in, envelope_at, hears, starts_again, is_told, own_deed}
use Rattle.rc_composition.specs.Deeds.{DeedsAreOwn}

-- what is done of what is there, or of nothing
of_part : {A : Type 0} (does : Part → Deed) (make : A → Part) (o : Option A) → maybe o (does NoPart) (λ (x : A). does (make x)) ≡ does (maybe o NoPart make)
of_part does make None = refl
of_part does make (Some x) = refl

pub hears_in : (w : Parties) (e : Envelope) (p : Party) → received w e p ≡ hears w.layout (part_in w p) e
hears_in w e (Node (Coord d)) = of_part (λ (x : Part). hears w.layout x e) (OfCoord d) (coord_at w d)
hears_in w e (Node (Shard d s)) = of_part (λ (x : Part). hears w.layout x e) (OfShard d s) (shard_at w d s)
hears_in w e (ClientOf t) = of_part (λ (x : Part). hears w.layout x e) (OfClient t) (found nat_cmp w.clients t)

pub starts_in : (w : Parties) (node : NodeId) → restarts w node ≡ starts_again w.layout (part_in w (Node node))
starts_in w (Coord d) = of_part (starts_again w.layout) (OfCoord d) (coord_at w d)
starts_in w (Shard d s) = of_part (starts_again w.layout) (OfShard d s) (shard_at w d s)

pub is_told_in : (w : Parties) (t : ℕ) (cause : ClientCause) → client_does w t cause ≡ is_told w.layout (part_in w (ClientOf t)) cause
is_told_in w t cause = of_part (λ (x : Part). is_told w.layout x cause) (OfClient t) (found nat_cmp w.clients t)

commanded : (w : Parties) (sent : List Envelope) (on_wire : List Message) (t : ℕ) (k : Command) → deed w sent (event_by t k) ≡ own_deed w.layout on_wire (part_in w (ClientOf t)) (event_by t k)
commanded w sent on_wire t (Read k) = is_told_in w t _
commanded w sent on_wire t (Write k value) = is_told_in w t _
commanded w sent on_wire t (Cancel k) = is_told_in w t _
commanded w sent on_wire t Commit = is_told_in w t _
commanded w sent on_wire t Vanish = is_told_in w t _

delivered : (w : Parties) (sent : List Envelope) (on_wire : List Message) (n : ℕ) (e : Envelope) → message sent n ≡ Some e → envelope_at on_wire n ≡ Some e
    → deed w sent (Deliver n) ≡ own_deed w.layout on_wire (part_in w e.to) (Deliver n)
delivered w sent on_wire n e there reads =
    ap (λ (o : Option Envelope). maybe o Idle (λ (m : Envelope). received w m m.to)) there ∙ hears_in w e e.to
    ∙ sym (ap (λ (o : Option Envelope). maybe o Idle (hears w.layout (part_in w e.to))) reads)

pub deeds_are_own : (w : Parties) (sent : List Envelope) (on_wire : List Message) → DeedsAreOwn w sent on_wire
deeds_are_own w sent on_wire = record { delivery = delivered w sent on_wire; command = commanded w sent on_wire; restart = starts_in w }
