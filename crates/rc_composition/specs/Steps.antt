-- What is known of the cells of a cluster: each post of a party sent what its step gave.
use Rattle.std.specs.Prelude.{◌≡◌, List, ◌∷◌, ◌++◌, map, Some, None, All}
use Rattle.rc_ids.specs.Cluster.{Layout}
use Rattle.rc_ids.specs.declared.names.Party.{Party}
use Rattle.rc_ids.specs.declared.sends.Letter.{Letter}
use Rattle.rc_net.specs.Network.{Message, message}
use Rattle.rc_msg.specs.declared.msg.Msg.{Msg}
use Rattle.rc_msg.specs.Spelling.{HasEnvelope}
use Rattle.rc_msg.specs.Outboxes.{letter}
use Rattle.rc_protocol.specs.Messages.{Posts}
use Rattle.rc_runs.specs.declared.event.Event.{Event}
use Rattle.rc_runs.specs.declared.event.Event.TheVariants.{Deliver}
use Rattle.rc_runs.specs.World.{envelopes, sends_of}
use Rattle.rc_runs.specs.Refusals.{Happening, worn_out}
use Rattle.rc_wire.specs.declared.turn.Act.TheVariants.{Posted}
use Rattle.rc_wire.specs.declared.turn.StepEnd.{StepEnd}
use Rattle.rc_wire.specs.declared.turn.Turn.{Turn}
use Rattle.rc_wire.specs.Chronicle.{Chronicle, replayed}
use Rattle.rc_wire.specs.Standings.{turn, by}
use Rattle.rc_composition.specs.Composed.{Operations, event_of_post}
use Rattle.rc_composition.specs.Parts.{Part, does, own_wrong, part_by}

-- messages as they are kept, each with its one spelling
abbrev pub letters_of : Party → Posts → List Letter
letters_of p ms = map (λ (m : Party × Msg). letter p m.0 m.1) ms

-- the party does this where it is so: nothing of it is refused, and the letters are the messages that it sends
pub record IsDone (c : Layout) (sent : List Message) (p : Party) (x : Part) (sends : List Letter) (h : Happening) : Type 0 where
  pub is_right : own_wrong x h.0 ≡ None
  pub is_fresh : worn_out (does c sent x h) ≡ None
  pub letters : sends ≡ letters_of p (sends_of (does c sent x h))
  pub spelled : All HasEnvelope (envelopes p (sends_of (does c sent x h)))

-- a message that the party is delivered was sent to it
abbrev pub IsTo : List Message → Party → Event → Type 0
IsTo sent p (Deliver n) = (m : Message) → message sent n ≡ Some m → m.to ≡ p
IsTo sent p _ = Unit {0}

-- a post, with the party's own entries before it and after it: it is an event, and sent what the party does in it
pub record IsStep (c : Layout) (ops : Operations) (sent : List Message) (p : Party) (earlier : List Turn) (end : StepEnd) (sends : List Letter) (later : List Turn) : Type 0 where
  pub happening : Happening
  pub is : event_of_post ops p earlier end later ≡ Some happening
  pub to : IsTo sent p happening.0
  pub done : IsDone c sent p (part_by c ops sent p earlier (turn p (Posted end sends) ∷ later)) sends happening

-- each post among the party's own entries is such a step. A run leaves out what is refused: so that nothing of a step is refused is part of
-- this. A client that refuses an operation posts nothing, a node restarts only where it has stopped, and a party that has used up its
-- ballots or versions halts and posts nothing
abbrev pub PostsAreSteps : Layout → Operations → List Message → Party → List Turn → Type 0
PostsAreSteps c ops sent p mine =
    (earlier : List Turn) (end : StepEnd) (sends : List Letter) (later : List Turn) → mine ≡ earlier ++ turn p (Posted end sends) ∷ later
    → IsStep c ops sent p earlier end sends later

-- so it is of each party of the wire
abbrev pub AreCells : Layout → Operations → Chronicle → Type 0
AreCells c ops wire = (p : Party) → PostsAreSteps c ops (replayed wire).traffic.sent p (by p wire.turns)
