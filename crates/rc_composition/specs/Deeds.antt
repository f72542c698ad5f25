-- What a party does by itself is what it does in a world.
use Rattle.std.specs.Prelude.{◌≡◌, ℕ, List, Some}
use Rattle.rc_ids.specs.declared.names.NodeId.{NodeId}
use Rattle.rc_ids.specs.declared.names.Party.TheVariants.{Node, Client}
use Rattle.rc_net.specs.Network.{Message}
use Rattle.rc_msg.specs.declared.msg.Envelope.{Envelope}
use Rattle.rc_runs.specs.declared.event.Event.TheVariants.{Deliver, Restart}
use Rattle.rc_runs.specs.World.{Parties, deed, message}
use Rattle.rc_composition.specs.declared.command.Command.{Command}
use Rattle.rc_composition.specs.Composed.{event_by}
use Rattle.rc_composition.specs.Parts.{part_in, envelope_at, own_deed}

-- of these messages of the world, and these of a wire: in a delivery of a message that reads so on the wire, in an operation of a client, and
-- in a restart
pub record DeedsAreOwn (w : Parties) (sent : List Envelope) (on_wire : List Message) : Type 0 where
  pub delivery : (n : ℕ) (e : Envelope) → message sent n ≡ Some e → envelope_at on_wire n ≡ Some e
      → deed w sent (Deliver n) ≡ own_deed w.layout on_wire (part_in w e.to) (Deliver n)
  pub command : (t : ℕ) (k : Command) → deed w sent (event_by t k) ≡ own_deed w.layout on_wire (part_in w (Client t)) (event_by t k)
  pub restart : (node : NodeId) → deed w sent (Restart node) ≡ own_deed w.layout on_wire (part_in w (Node node)) (Restart node)
