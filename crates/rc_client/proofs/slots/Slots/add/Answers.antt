use Rattle.std.proofs.Common.{◌≡◌, ◌<◌, None, length, ap, arith}
use Rattle.rc_protocol.specs.Client.{slot_of}
use Rattle.rc_client.proofs.SlotFacts.{IsSlots-push}
use Rattle.rc_client.proofs.slots.Slots.add.Goals as goal

pub invariant_of-self-2 : goal.invariant_of-self-2
invariant_of-self-2 c =
    let room : length c.self.inside.items.items < 32 = omega (arith, ap length c.self.view_is) in
    let absent : slot_of c.self.inside.items.items c.args.slot.key ≡ None = rw c.self.view_is c.requires.absent in
    rw c.in_ok-push.ensures.items (IsSlots-push c.self.inside.items.items c.args.slot c.self.invariant absent room)
