use Rattle.std.proofs.Common.{◌≡◌, ◌<◌, length, arith}
use Rattle.rc_disk.proofs.Slots.{walk_on, walk_none}
use Rattle.rc_disk.proofs.shelf.select_all.Goals as goal

pub loop-slot-init : goal.loop-slot-init
loop-slot-init g c = walk_none _ _

pub loop-slot-preserved : goal.loop-slot-preserved
loop-slot-preserved g c =
    let inside : c.loop-slot.slot-index < length c.loop-slot.slots = omega (arith, c.loop-slot-test.true, c.loop-slot.auto.slots) in
    walk_on _ _ _ _ c.slot-item.result _ c.loop-slot.invariant inside c.select.ensures
