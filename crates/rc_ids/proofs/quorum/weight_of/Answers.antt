use Rattle.std.proofs.Common.{arith, ◌+◌}
use Rattle.rc_ids.proofs.WeightFacts.{weight_from-drop}
use Rattle.rc_ids.proofs.quorum.weight_of.Goals as goal

pub loop-place-preserved : goal.loop-place-preserved
loop-place-preserved c =
    grind (arith, c.type_inv.weights c.loop-place.place, weight_from-drop (c.loop-place.place + 1) c.loop-place.place c.args.weights.now c.args.set.now (omega arith))
