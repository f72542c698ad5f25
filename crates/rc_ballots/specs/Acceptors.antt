-- An acceptor of Paxos, of one transaction: what it promised, and what it accepted last. That it may promise again at its own ballot
-- and that an accept raises the promise are this project's own.
use Rattle.std.specs.Prelude.{ℕ, nat_le, Bool, Option, None, Some}
use Rattle.rc_body.specs.declared.decision.Decision.{Decision}

pub record Acceptor : Type 0 where
  pub promise : ℕ
  pub accepted : Option (ℕ × Decision)

abbrev pub new_acceptor : Acceptor
new_acceptor = record { promise = 0; accepted = None }

-- the promise is not above the ballot
abbrev pub may_take : Acceptor → ℕ → Bool
may_take a b = nat_le a.promise b

abbrev pub promised : Acceptor → ℕ → Acceptor
promised a b = record { promise = b; accepted = a.accepted }

abbrev pub accepting : Acceptor → ℕ → Decision → Acceptor
accepting a b decision = record { promise = b; accepted = Some (b, decision) }
