-- The network of a world by itself.
use Rattle.std.specs.Prelude.{ℕ, suc, ◌+◌, List, [], ◌∷◌, ◌++◌, Option, Some, None, nat_lt, length, if◌then◌else◌}
use Rattle.rc_msg.specs.declared.msg.Envelope.{Envelope}
use Rattle.rc_report.specs.declared.fault.Which.{Which}
use Rattle.rc_report.specs.declared.fault.Which.TheVariants.{Messages, MessageBytes}
use Rattle.rc_runs.specs.declared.event.Event.{Event}
use Rattle.rc_runs.specs.World.{still_pending, delivered_after}
use Rattle.rc_runs.specs.Refusals.{most_messages, most_message_bytes}

-- the messages sent, the bytes of all, and the numbers of those that are pending and of those delivered
pub record Network : Type 0 where
  pub sent : List Envelope
  pub bytes : ℕ
  pub pending : List ℕ
  pub delivered : List ℕ

abbrev pub new_network : Network
new_network = record { sent = []; bytes = 0; pending = []; delivered = [] }

-- what is delivered or lost in the event is no longer pending
abbrev pub passed : Network → Event → Network
passed n e = record { sent = n.sent; bytes = n.bytes; pending = still_pending n.pending e; delivered = delivered_after n.delivered e }

-- the numbers of messages that follow the given number
abbrev pub numbers_of : ℕ → List Envelope → List ℕ
numbers_of n [] = []
numbers_of n (e ∷ es) = suc n ∷ numbers_of (suc n) es

abbrev pub posted : Network → List Envelope → ℕ → Network
posted n es bytes = record { sent = n.sent ++ es; bytes = n.bytes + bytes; pending = n.pending ++ numbers_of (length n.sent) es; delivered = n.delivered }

-- the limit that so many more messages with so many bytes would pass
abbrev pub too_much : Network → ℕ → ℕ → Option Which
too_much n count bytes =
    if nat_lt most_messages (length n.sent + count) then Some Messages
    else (if nat_lt most_message_bytes (n.bytes + bytes) then Some MessageBytes else None)

-- the oldest pending message
abbrev pub oldest : List ℕ → Option ℕ
oldest [] = None
oldest (n ∷ ns) = Some n
