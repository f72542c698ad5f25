use Rattle.std.proofs.Common.{◌≡◌, drop}
use Rattle.rc_config.specs.Plans.{new_course, may_follow}
use Rattle.rc_config.proofs.course.may_follow.Given as goal

abbrev pub invariant-loop-operation : goal.invariant-loop-operation
invariant-loop-operation l = may_follow l.course (drop l.operation-index l.operations) ≡ may_follow new_course l.operations
