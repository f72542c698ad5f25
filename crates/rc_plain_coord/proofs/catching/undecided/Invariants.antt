use Rattle.std.proofs.Common.{◌≡◌, take}
use Rattle.rc_protocol.specs.Coordinator.{undecided}
use Rattle.rc_plain_coord.proofs.catching.undecided.Given as goal

abbrev pub invariant-loop-index : goal.invariant-loop-index
invariant-loop-index l = l.fresh ≡ undecided l.outcomes (take l.index l.page)
