-- A network: the messages that were sent, numbered from 1 on, and the numbers of those that are pending.
use Rattle.std.specs.Prelude.{ℕ, zero, suc, ◌+◌, ◌-◌, ◌^◌, ◌==◌, nat_le, Bool, ◌&&◌, List, [], ◌∷◌, length, map, Option, Some, None, slice_get, sum_by, if◌then◌else◌}
use Rattle.std.specs.Ordering.{nat_cmp}
use Rattle.rc_ids.specs.Tables.{maybe, member}
use Rattle.rc_ids.specs.declared.names.Party.{Party}
use Rattle.rc_ids.specs.declared.sends.Letter.{Letter}
use Rattle.rc_net.specs.declared.fault.NetFault.{NetFault}
use Rattle.rc_net.specs.declared.fault.NetFault.TheVariants.{NoSuchMessage, NotPending}

pub record Message : Type 0 where
  pub from : Party
  pub to : Party
  pub bytes : List ℕ

pub record Network : Type 0 where
  pub sent : List Message  -- all messages that were ever sent; the first has number 1
  pub pending : List ℕ  -- the numbers of those that were neither delivered nor lost yet; they rise
  pub spare : ℕ  -- how many lists more can be sent without memory

-- the messages of a list
abbrev pub messages : Party → List Letter → List Message
messages from letters = map (λ (l : Letter). record { from = from; to = l.to; bytes = l.bytes }) letters

abbrev pub one_message : Party → Party → List ℕ → Message
one_message from to bytes = record { from = from; to = to; bytes = bytes }

-- the numbers of so many messages after the first n
abbrev pub numbers_after : ℕ → ℕ → List ℕ
numbers_after n zero = []
numbers_after n (suc count) = suc n ∷ numbers_after (suc n) count

-- the message with a number
abbrev pub message : List Message → ℕ → Option Message
message sent n = if n == 0 then None else slice_get sent (n - 1)

abbrev pub bytes_of : List Message → ℕ
bytes_of ms = sum_by (λ (m : Message). length m.bytes) ms

abbrev pub letters_bytes : List Letter → ℕ
letters_bytes ls = sum_by (λ (l : Letter). length l.bytes) ls

-- so many messages more, with so many bytes, do not pass the limits
abbrev pub fits : List Message → ℕ → ℕ → Bool
fits sent count bytes = nat_le (length sent + count) 4000000 && nat_le (bytes_of sent + bytes) (2 ^ 30)

-- why a message is not delivered, and why it is not lost; None where it is
abbrev pub delivery_fault : List Message → ℕ → Option NetFault
delivery_fault sent n = maybe (message sent n) (Some NoSuchMessage) (λ _. None)

abbrev pub loss_fault : List Message → List ℕ → ℕ → Option NetFault
loss_fault sent pending n = maybe (message sent n) (Some NoSuchMessage) (λ _. if member nat_cmp pending n then None else Some NotPending)
