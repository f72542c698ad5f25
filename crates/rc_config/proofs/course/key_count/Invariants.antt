use Rattle.std.proofs.Common.{◌≡◌, [], drop}
use Rattle.rc_config.specs.Plans.{keys_named}
use Rattle.rc_config.proofs.course.key_count.Given as goal

abbrev pub invariant-loop-operation : goal.invariant-loop-operation
invariant-loop-operation l = keys_named l.keys.keys (drop l.operation-index l.operations) ≡ keys_named [] l.operations
