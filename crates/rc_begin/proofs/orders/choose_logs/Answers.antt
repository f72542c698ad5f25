use Rattle.std.proofs.Common.{arith}
use Rattle.rc_begin.proofs.LogSteps.{logs_step}
use Rattle.rc_begin.proofs.orders.choose_logs.Goals as goal

pub loop-place-preserved : goal.loop-place-preserved
loop-place-preserved c =
    logs_step c.args.order.now c.loop-place.order c.choose_log.new.order c.args.logs.now c.loop-place.place c.index-logs-place.result
    (omega arith) c.index-logs-place.is c.in_ok-choose_log.ensures c.loop-place.invariant
