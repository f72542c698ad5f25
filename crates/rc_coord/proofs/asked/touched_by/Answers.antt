use Rattle.rc_body.specs.Bodies.{touches}
use Rattle.rc_vote.proofs.ShardFacts.{left_more}
use Rattle.rc_coord.proofs.asked.touched_by.Goals as goal

pub loop-place-preserved : goal.loop-place-preserved
loop-place-preserved c =
    left_more (touches c.args.cluster.now c.args.body.now) c.loop-place.place c.loop-place.set c.with_if-set.result c.touches.result
    c.with_if-set.ensures c.touches.ensures c.loop-place.invariant
