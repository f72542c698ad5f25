use Rattle.std.proofs.Common.{◌≡◌, drop}
use Rattle.rc_protocol.specs.Coordinator.{forgotten_all}
use Rattle.rc_plain_coord.proofs.volatile.Volatile.forget_all.Given as goal

abbrev pub invariant-loop-index : goal.invariant-loop-index
invariant-loop-index l = forgotten_all l.self (drop l.index l.page) ≡ forgotten_all l.initial.self l.page
