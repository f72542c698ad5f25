use Rattle.std.proofs.Common.{◌≡◌, take}
use Rattle.rc_protocol.specs.Coordinator.{undecided}
use Rattle.rc_coord.proofs.pages.undecided.Given as goal

abbrev pub invariant-loop-index : goal.invariant-loop-index
invariant-loop-index l = l.fresh ≡ undecided l.outcomes.entries (take l.index l.page)
