use Rattle.std.proofs.Common.{◌≡◌, Some, ap, refl}
use Rattle.rc_protocol.specs.Client.{Slot, slot_of, with_read}
use Rattle.rc_client.specs.Reads.{read_of}
use Rattle.rc_client.specs.Slots.{IsPlace}
use Rattle.rc_client.proofs.SlotFacts.{IsSlots-set, changed-set, found_at}
use Rattle.rc_client.proofs.slots.Slots.replace_read.Goals as goal

pub invariant_of-self : goal.invariant_of-self
invariant_of-self c =
    let place : IsPlace c.self.inside.items.items c.args.key.now c.in-Some.place = rw (← c.as_slice.ensures.value) c.in-Some.ensures.found in
    IsSlots-set c.self.inside.items.items c.in-Some.place c.replace_read.new.self c.index_mut-slot.result.now c.self.invariant place.within
    c.index_mut-slot.ensures.value (ap (λ (s : Slot). s.key) c.replace_read.ensures.after)

pub returns-in-Some-clause-before : goal.returns-in-Some-clause-before
returns-in-Some-clause-before c =
    let place : IsPlace c.self.inside.items.items c.args.key.now c.in-Some.place = rw (← c.as_slice.ensures.value) c.in-Some.ensures.found in
    let found : slot_of c.self.inside.items.items c.args.key.now ≡ Some c.index_mut-slot.result.now =
    found_at c.self.inside.items.items c.args.key.now c.in-Some.place c.index_mut-slot.result.now place c.index_mut-slot.ensures.value in
    rw (← c.self.view_is, found) c.replace_read.ensures.before

pub returns-in-Some-clause-after : goal.returns-in-Some-clause-after
returns-in-Some-clause-after c =
    let place : IsPlace c.self.inside.items.items c.args.key.now c.in-Some.place = rw (← c.as_slice.ensures.value) c.in-Some.ensures.found in
    rw (← c.self.view_is)
    (changed-set (λ (s : Slot). with_read s (read_of c.args.read)) c.self.inside.items.items c.self.inside.items.items c.args.key.now c.in-Some.place
    c.index_mut-slot.result.now c.replace_read.new.self place c.index_mut-slot.ensures.value refl c.replace_read.ensures.after)
