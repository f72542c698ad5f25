-- What a coordinator's log gives back, and what a record makes of it.
use Rattle.std.specs.Prelude.{ℕ, List, [], ◌∷◌, ◌++◌, Option, max}
use Rattle.std.specs.Ordering.{nat_cmp}
use Rattle.rc_ids.specs.Tables.{Table, found, put, maybe}
use Rattle.rc_body.specs.declared.decision.Decision.{Decision}
use Rattle.rc_record.specs.declared.coord.CoordDurable.{CoordDurable as Durable}
use Rattle.rc_record.specs.declared.record.Record.{Record}
use Rattle.rc_record.specs.declared.record.Record.TheVariants.{Promised, Accepted, Decided}

-- what a log gives back: of each transaction the promise and the accepted ballot with its decision, and the list of outcomes
abbrev pub CoordDurable : Type 0
CoordDurable = Durable

abbrev pub new_durable : CoordDurable
new_durable = record { promises = []; accepted = []; outcomes = [] }

-- THE ACCEPTOR
abbrev pub promise_of : Table ℕ ℕ → ℕ → ℕ
promise_of promises t = maybe (found nat_cmp promises t) 0 (λ b. b)

-- the outcome in the list
abbrev pub outcome_of : List (ℕ × Decision) → ℕ → Option Decision
outcome_of outcomes t = found nat_cmp outcomes t

-- the promise is raised to the ballot, if it is lower
abbrev pub promise_raised : Table ℕ ℕ → ℕ → ℕ → Table ℕ ℕ
promise_raised promises t b = put nat_cmp promises t (max (promise_of promises t) b)

-- the entries whose transaction is not in the list yet join it
abbrev pub outcomes_joined : List (ℕ × Decision) → List (ℕ × Decision) → List (ℕ × Decision)
outcomes_joined list [] = list
outcomes_joined list (e ∷ es) = outcomes_joined (maybe (outcome_of list e.0) (list ++ e ∷ []) (λ _. list)) es

-- what a record makes of the durable state; replay folds it over a log
abbrev pub coord_applied : CoordDurable → Record → CoordDurable
coord_applied s (Promised t b) = record s { promises = promise_raised s.promises t b }
coord_applied s (Accepted t b o) = record s { promises = promise_raised s.promises t b; accepted = put nat_cmp s.accepted t (b, o) }
coord_applied s (Decided page) = record s { outcomes = outcomes_joined s.outcomes page }
coord_applied s _ = s
