-- The messages that a party is about to send.
use Rattle.std.specs.Prelude.{ℕ, List, [], ◌∷◌, ◌++◌, true, take}
use Rattle.rc_ids.specs.declared.names.Party.{Party}
use Rattle.rc_ids.specs.declared.sends.Letter.{Letter}
use Rattle.rc_msg.specs.declared.msg.Msg.{Msg}
use Rattle.rc_msg.specs.Spelling.{envelope_bytes}

pub record Outbox : Type 0 where
  pub from : Party
  pub letters : List Letter

abbrev pub new_outbox : Party → Outbox
new_outbox from = record { from = from; letters = [] }

-- a message as it is kept: its receiver, and its one spelling, marked as not yet delivered
abbrev pub letter : Party → Party → Msg → Letter
letter from to m = record { to = to; bytes = envelope_bytes (record { from = from; to = to; msg = m }); mark = true }

-- with one message more
abbrev pub posted : Outbox → Party → Msg → Outbox
posted o to m = record { from = o.from; letters = o.letters ++ letter o.from to m ∷ [] }

-- with the first messages alone
abbrev pub cut : Outbox → ℕ → Outbox
cut o len = record { from = o.from; letters = take len o.letters }
