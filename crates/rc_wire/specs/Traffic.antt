-- The messages after a history: those that were sent, and those that are pending.
use Rattle.std.specs.Prelude.{ℕ, ◌%◌, ◌==◌, Bool, ◌&&◌, not, List, [], ◌∷◌, ◌++◌, length, filter, if◌then◌else◌}
use Rattle.std.specs.Ordering.{nat_cmp}
use Rattle.rc_ids.specs.declared.names.Party.{Party}
use Rattle.rc_ids.specs.declared.sends.Letter.{Letter}
use Rattle.rc_ids.specs.Tables.{member, removed}
use Rattle.rc_net.specs.Network.{Network, Message, messages, numbers_after}
use Rattle.rc_wire.specs.declared.rules.Rules.{Rules}
use Rattle.rc_wire.specs.declared.turn.Act.{Act}
use Rattle.rc_wire.specs.declared.turn.Act.TheVariants.{Took, Posted, Rested, Halted}
use Rattle.rc_wire.specs.declared.turn.Turn.{Turn}

pub record Traffic : Type 0 where
  pub sent : List Message  -- all messages; the first has number 1
  pub pending : List ℕ  -- the numbers of those that are pending; they rise
  pub again : List ℕ  -- those of them that are pending once more

abbrev pub no_traffic : Traffic
no_traffic = record { sent = []; pending = []; again = [] }

-- what a network has, with the messages that are pending once more
abbrev pub traffic_of : Network → List ℕ → Traffic
traffic_of net again = record { sent = net.sent; pending = net.pending; again = again }

-- where the rule's number is not 0, it meets the numbers that it divides
abbrev pub meets : ℕ → ℕ → Bool
meets every number = not (every == 0) && (number % every == 0)

-- a message is lost as it is sent
abbrev pub is_lost : Rules → ℕ → Bool
is_lost rules number = meets rules.lose_every number

-- a message that is not lost is pending twice
abbrev pub is_repeated : Rules → ℕ → Bool
is_repeated rules number = not (is_lost rules number) && meets rules.repeat_every number

-- what becomes of the traffic where a message that is pending is lost, or is pending once more, as the rules say
abbrev pub arrived : Rules → Traffic → ℕ → Traffic
arrived rules t number =
    record { sent = t.sent; pending = if is_lost rules number then removed nat_cmp t.pending number else t.pending; again = if is_repeated rules number then t.again ++ number ∷ [] else t.again }

abbrev pub arriving : Rules → List ℕ → List ℕ
arriving rules numbers = filter (λ number. not (is_lost rules number)) numbers

abbrev pub repeated : Rules → List ℕ → List ℕ
repeated rules numbers = filter (is_repeated rules) numbers

abbrev pub posted : Rules → Traffic → Party → List Letter → Traffic
posted rules t party sends =
    let numbers = numbers_after (length t.sent) (length sends) in
    record { sent = t.sent ++ messages party sends; pending = t.pending ++ arriving rules numbers; again = t.again ++ repeated rules numbers }

-- a message that is pending twice is then pending once, and another no longer
abbrev pub taken : Traffic → ℕ → Traffic
taken t number =
    if member nat_cmp t.again number
    then record { sent = t.sent; pending = t.pending; again = removed nat_cmp t.again number }
    else record { sent = t.sent; pending = removed nat_cmp t.pending number; again = t.again }

abbrev pub moved : Rules → Traffic → Party → Act → Traffic
moved rules t party (Took number) = taken t number
moved rules t party (Posted end sends) = posted rules t party sends
moved rules t party (Rested ended) = t
moved rules t party (Halted cause) = t

abbrev pub moved_by_all : Rules → Traffic → List Turn → Traffic
moved_by_all rules t [] = t
moved_by_all rules t (e ∷ es) = moved_by_all rules (moved rules t e.party e.act) es

-- the messages after a history
abbrev pub traffic : Rules → List Turn → Traffic
traffic rules turns = moved_by_all rules no_traffic turns
