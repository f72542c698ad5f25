use Rattle.std.proofs.Common.{take}
use Rattle.rc_begin.specs.Logs.{choices_of}
use Rattle.rc_begin.proofs.LogSteps.{Lists}
use Rattle.rc_begin.proofs.orders.choose_logs.Given as goal

abbrev pub invariant-loop-place : goal.invariant-loop-place
invariant-loop-place l = Lists l.initial.order l.order (λ c coords chosen. choices_of c coords chosen (take l.place l.logs))
