-- Messages of a run and of a wire.
use Rattle.std.specs.Prelude.{◌≡◌, List, ◌++◌, map}
use Rattle.rc_ids.specs.declared.names.Party.{Party}
use Rattle.rc_net.specs.Network.{Message, messages}
use Rattle.rc_msg.specs.declared.msg.Envelope.{Envelope}
use Rattle.rc_msg.specs.Spelling.{envelope_bytes}
use Rattle.rc_protocol.specs.Messages.{Posts}
use Rattle.rc_runs.specs.World.{envelopes}
use Rattle.rc_wire.specs.declared.rules.Rules.{Rules}
use Rattle.rc_wire.specs.declared.turn.Turn.{Turn}
use Rattle.rc_wire.specs.Passes.{IsFront}
use Rattle.rc_wire.specs.Traffic.{traffic}
use Rattle.rc_composition.specs.Steps.{letters_of}

-- a message of a run, as it is sent on a wire
abbrev pub wire_message : Envelope → Message
wire_message e = record { from = e.from; to = e.to; bytes = envelope_bytes e }

-- what a party posts are the messages that it sends
abbrev pub LettersAreMessages : Party → Posts → Type 0
LettersAreMessages p ms = messages p (letters_of p ms) ≡ map wire_message (envelopes p ms)

-- a number names the same message in every longer history
abbrev pub NumbersStay : Rules → List Turn → List Turn → Type 0
NumbersStay rules front later = IsFront (traffic rules front).sent (traffic rules (front ++ later)).sent
