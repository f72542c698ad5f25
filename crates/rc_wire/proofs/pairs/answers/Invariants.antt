use Rattle.std.proofs.Common.{◌≡◌}
use Rattle.rc_wire.specs.Standings.{at_first, standing}
use Rattle.rc_wire.proofs.pairs.answers.Given as goal

abbrev pub invariant-loop-want : goal.invariant-loop-want
invariant-loop-want g l = standing l.node.pass.mine ≡ at_first
