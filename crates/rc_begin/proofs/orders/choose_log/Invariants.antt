use Rattle.std.proofs.Common.{take}
use Rattle.rc_runs.specs.Starts.{with_choices}
use Rattle.rc_runs.specs.Stored.{records_of}
use Rattle.rc_begin.proofs.LogSteps.{Lists}
use Rattle.rc_begin.proofs.orders.choose_log.Given as goal

abbrev pub invariant-loop-place : goal.invariant-loop-place
invariant-loop-place l = Lists l.initial.order l.order (λ c coords chosen. with_choices c coords chosen (records_of (take l.place l.log)))
