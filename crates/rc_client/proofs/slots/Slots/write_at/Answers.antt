use Rattle.std.proofs.Common.{ap, refl}
use Rattle.rc_protocol.specs.Client.{Slot, with_write}
use Rattle.rc_client.specs.Slots.{IsPlace}
use Rattle.rc_client.proofs.SlotFacts.{IsSlots-set, changed-set}
use Rattle.rc_client.proofs.slots.Slots.write_at.Goals as goal

pub invariant_of-self : goal.invariant_of-self
invariant_of-self c =
    let place : IsPlace c.self.inside.items.items c.args.key.now c.args.place = rw c.self.view_is c.requires in
    IsSlots-set c.self.inside.items.items c.args.place c.set_write.new.self c.index_mut-slot.result.now c.self.invariant place.within
    c.index_mut-slot.ensures.value (ap (λ (s : Slot). s.key) c.set_write.ensures)

pub returns : goal.returns
returns c =
    let place : IsPlace c.self.inside.items.items c.args.key.now c.args.place = rw c.self.view_is c.requires in
    rw (← c.self.view_is)
    (changed-set (λ (s : Slot). with_write s c.args.value) c.self.inside.items.items c.self.inside.items.items c.args.key.now c.args.place
    c.index_mut-slot.result.now c.set_write.new.self place c.index_mut-slot.ensures.value refl c.set_write.ensures)
