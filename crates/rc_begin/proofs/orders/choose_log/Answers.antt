use Rattle.std.proofs.Common.{arith}
use Rattle.rc_begin.proofs.LogSteps.{chosen_step}
use Rattle.rc_begin.proofs.orders.choose_log.Goals as goal

pub loop-place-preserved : goal.loop-place-preserved
loop-place-preserved c =
    chosen_step c.args.order.now c.loop-place.order c.choose_blob.new.order c.as_slice-log.result.now c.loop-place.place c.index-log-place.result
    (omega arith) c.index-log-place.is c.in_ok-choose_blob.ensures c.loop-place.invariant
