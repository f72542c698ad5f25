-- The network of bytes as the messages of a world.
use Rattle.std.specs.Prelude.{◌≡◌, ℕ, ◌+◌, Option, Some, None, List, map, All, length, nat_lt, if◌then◌else◌}
use Rattle.rc_ids.specs.declared.names.Party.{Party}
use Rattle.rc_ids.specs.declared.sends.Letter.{Letter}
use Rattle.rc_msg.specs.Spelling.{envelope_bytes, HasEnvelope}
use Rattle.rc_msg.specs.declared.msg.Envelope.{Envelope}
use Rattle.rc_msg.specs.Outboxes.{new_outbox}
use Rattle.rc_msg.specs.Posts.{posted_all}
use Rattle.rc_net.specs.Network.{Message, Network}
use Rattle.rc_net.specs.declared.fault.NetFault.{NetFault}
use Rattle.rc_net.specs.declared.fault.NetFault.TheVariants.{NoMemory as OutOfMemory, WireFull as Full, NoSuchMessage, NotPending as IsSettled}
use Rattle.rc_protocol.specs.Messages.{Posts}
use Rattle.rc_report.specs.declared.fault.Which.{Which}
use Rattle.rc_report.specs.declared.fault.Which.TheVariants.{Messages, MessageBytes}
use Rattle.rc_report.specs.declared.fault.Wrong.{Wrong}
use Rattle.rc_report.specs.declared.fault.Wrong.TheVariants.{NotSent, NotPending}
use Rattle.rc_runs.specs.World.{World, envelopes, bytes_of}
use Rattle.rc_runs.specs.Refusals.{most_messages, most_message_bytes}

-- a message in its spelling
abbrev pub parcel_of : Envelope → Message
parcel_of e = record { from = e.from; to = e.to; bytes = envelope_bytes e }

-- the network has the world's messages in their spellings, and the same ones are pending
pub record IsMail (n : Network) (w : World) : Type 0 where
  pub sent : n.sent ≡ map parcel_of w.sent
  pub pending : n.pending ≡ w.pending
  pub bytes : w.bytes ≡ bytes_of w.sent
  pub spelled : All HasEnvelope w.sent

-- what the outbox of this sender holds after these posts
abbrev pub letters_of : Party → Posts → List Letter
letters_of from ms = (posted_all (new_outbox from) ms).letters

-- the limit that these messages from this sender would pass
abbrev pub too_much : World → Party → Posts → Option Which
too_much w from ms =
    if nat_lt most_messages (length w.sent + length ms) then Some Messages
    else (if nat_lt most_message_bytes (w.bytes + bytes_of (envelopes from ms)) then Some MessageBytes else None)

-- what the network refuses to do with a message, as a wrong name
abbrev pub refused_name : ℕ → NetFault → Option Wrong
refused_name k NoSuchMessage = Some (NotSent k)
refused_name k IsSettled = Some (NotPending k)
refused_name k Full = None
refused_name k OutOfMemory = None
