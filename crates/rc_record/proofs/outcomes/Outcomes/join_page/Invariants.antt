use Rattle.std.proofs.Common.{◌≡◌, drop}
use Rattle.rc_record.specs.CoordState.{outcomes_joined}
use Rattle.rc_record.proofs.outcomes.Outcomes.join_page.Given as goal

abbrev pub invariant-loop-index : goal.invariant-loop-index
invariant-loop-index l = outcomes_joined l.self (drop l.index l.page) ≡ outcomes_joined l.initial.self l.page
