use Rattle.std.proofs.Common.{◌≡◌, ◌++◌}
use Rattle.rc_coord.specs.Rows.{AreNew}
use Rattle.rc_coord.proofs.starting.outcomes_of.Given as goal

abbrev pub invariant-loop-tx : goal.invariant-loop-tx
invariant-loop-tx l = record {
  known : l.outcomes.entries ++ l.tx-iterator ≡ l.fn.known;
  new : AreNew l.outcomes.entries l.tx-iterator;
}
