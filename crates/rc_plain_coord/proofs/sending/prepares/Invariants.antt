use Rattle.std.proofs.Common.{◌≡◌, ◌++◌}
use Rattle.rc_protocol.specs.Messages.{to_each}
use Rattle.rc_protocol.specs.Coordinator.{prepare_to}
use Rattle.rc_plain_coord.proofs.sending.prepares.Given as goal

abbrev pub invariant-loop-place : goal.invariant-loop-place
invariant-loop-place l = l.out ≡ l.initial.out ++ to_each l.place (prepare_to l.cluster l.dc l.tx l.gather)
