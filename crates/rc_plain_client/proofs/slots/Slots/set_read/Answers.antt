use Rattle.std.proofs.Common.{ap}
use Rattle.rc_protocol.specs.Client.{Slot}
use Rattle.rc_plain_client.specs.Reads.{read_of}
use Rattle.rc_plain_client.specs.Slots.{IsPlace}
use Rattle.rc_plain_client.proofs.SlotFacts.{IsSlots-set, read-set}
use Rattle.rc_plain_client.proofs.slots.Slots.set_read.Goals as goal

pub invariant_of-self : goal.invariant_of-self
invariant_of-self c =
    let place : IsPlace c.self.inside.items.items c.args.key.now c.in-Some.place = rw (← c.as_slice.ensures.value) c.in-Some.ensures.found in
    IsSlots-set c.self.inside.items.items c.in-Some.place c.set_read.new.self c.index_mut-slot.result.now c.self.invariant place.within
    c.index_mut-slot.ensures.value (ap (λ (s : Slot). s.key) c.set_read.ensures)

pub returns-in-Some : goal.returns-in-Some
returns-in-Some c =
    let place : IsPlace c.self.inside.items.items c.args.key.now c.in-Some.place = rw (← c.as_slice.ensures.value) c.in-Some.ensures.found in
    rw (← c.self.view_is)
    (read-set c.self.inside.items.items c.args.key.now c.in-Some.place c.index_mut-slot.result.now c.set_read.new.self (read_of c.args.read)
    place c.index_mut-slot.ensures.value c.set_read.ensures)
