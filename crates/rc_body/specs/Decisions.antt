-- What a decision says.
use Rattle.std.specs.Prelude.{Bool, true, false}
use Rattle.rc_ids.specs.declared.names.Outcome.{Outcome}
use Rattle.rc_ids.specs.declared.names.Outcome.TheVariants.{Commit as Committed, Abort as Aborted}
use Rattle.rc_body.specs.declared.decision.Decision.{Decision}
use Rattle.rc_body.specs.declared.decision.Decision.TheVariants.{Commit, Abort}

abbrev pub is_commit : Decision → Bool
is_commit (Commit body) = true
is_commit Abort = false

abbrev pub outcome_of : Decision → Outcome
outcome_of (Commit body) = Committed
outcome_of Abort = Aborted
