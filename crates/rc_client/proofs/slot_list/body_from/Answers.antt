use Rattle.rc_client.proofs.SlotFacts.{body-absent}
use Rattle.rc_client.proofs.slot_list.body_from.Goals as goal

pub add-requires : goal.add-requires
add-requires c =
    rw (c.loop-slot.invariant, c.in_ok-entry.ensures, c.slot-item.is)
    (body-absent c.args.slots.now c.loop-slot.slot-index c.slot-item.result c.requires.apart c.loop-slot-test.true)
