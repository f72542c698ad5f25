-- The votes of one transaction counted by outcome, and the outcome that a quorum stands for.
use Rattle.std.specs.Prelude.{◌≡◌, ℕ, suc, ◌<◌, List, [], ◌∷◌, Option, Some, None, is_some, nat_lt, ◌==◌, if◌then◌else◌}
use Rattle.rc_ids.specs.Tables.{Table}
use Rattle.rc_ids.specs.Cluster.{Layout, holds}
use Rattle.rc_ids.specs.declared.names.Outcome.{Outcome}
use Rattle.rc_ids.specs.declared.names.Outcome.TheVariants.{Commit as CommitOutcome, Abort as AbortOutcome}
use Rattle.rc_body.specs.declared.decision.Decision.{Decision}
use Rattle.rc_body.specs.declared.decision.Decision.TheVariants.{Commit, Abort}
use Rattle.rc_body.specs.Decisions.{outcome_of}
use Rattle.rc_protocol.specs.Coordinator.{Standing, stands_for, standing_for, standing_at, counted, is_decided_by}

-- the weights of the datacentres, the standing at each ballot, and how many ballots more there is memory for
pub record Tally : Type 0 where
  pub quorum : List ℕ
  pub votes : Table ℕ Standing
  pub spare : ℕ

-- a decision that has the outcome
abbrev pub decision_of : Outcome → Decision
decision_of CommitOutcome = Commit []
decision_of AbortOutcome = Abort

-- the standing with one more vote for the outcome, and who stands for it
abbrev pub voting : Standing → Outcome → ℕ → Standing
voting standing o d = stands_for standing (decision_of o) d

abbrev pub voters : Standing → Outcome → List ℕ
voters standing o = standing_for standing (decision_of o)

-- the outcome, where those that stand for it are a quorum
abbrev pub won : List ℕ → Standing → Outcome → Option Outcome
won weights standing o = if holds weights (voters standing o) then Some o else None

-- the votes with one more, and what they then decide
abbrev pub counted_for : Table ℕ Standing → ℕ → ℕ → Outcome → Table ℕ Standing
counted_for votes b d o = counted votes b d (decision_of o)

abbrev pub won_by : List ℕ → Table ℕ Standing → ℕ → ℕ → Outcome → Option Outcome
won_by weights votes b d o = won weights (voting (standing_at votes b) o d) o

-- what a decision counts for is what its outcome does
pub record TallyLaws (c : Layout) (votes : Table ℕ Standing) (b d : ℕ) (o : Decision) : Type 0 where
  pub counts : counted votes b d o ≡ counted_for votes b d (outcome_of o)
  pub decides : is_decided_by c votes b d o ≡ is_some (won_by c.weights votes b d (outcome_of o))

-- each of these ballots is above b
abbrev pub AreAbove : ℕ → Table ℕ Standing → Type 0
AreAbove b [] = Unit {0}
AreAbove b (r ∷ rs) = (b < r.0) × AreAbove b rs

-- each ballot is below those after it
abbrev pub Rises : Table ℕ Standing → Type 0
Rises [] = Unit {0}
Rises (r ∷ rs) = AreAbove r.0 rs × Rises rs

-- how many ballots at the front are below b
abbrev pub rank : ℕ → Table ℕ Standing → ℕ
rank b [] = 0
rank b (r ∷ rs) = if nat_lt r.0 b then suc (rank b rs) else 0

-- what a row has of the ballot
abbrev pub held : ℕ → Option (ℕ × Standing) → Option Standing
held b None = None
held b (Some r) = if b == r.0 then Some r.1 else None
