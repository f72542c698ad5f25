use Rattle.std.proofs.Common.{drop}
use Rattle.rc_serial.proofs.Runs.{Fills}
use Rattle.rc_serial.proofs.versions.Versions.of.Given as goal

abbrev pub invariant-loop-index : goal.invariant-loop-index
invariant-loop-index l = Fills l.rows l.versions (drop l.index l.rows)
