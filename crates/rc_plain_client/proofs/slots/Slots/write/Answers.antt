use Rattle.std.proofs.Common.{Some, [], ◌∷◌, ◌++◌}
use Rattle.std.proofs.lemmas.Result.{on_ok_weaker}
use Rattle.rc_protocol.specs.Client.{NotRead}
use Rattle.rc_plain_client.specs.Slots.{IsPlace}
use Rattle.rc_plain_client.proofs.SlotFacts.{IsSlots-set, write-set}
use Rattle.rc_plain_client.proofs.slots.Slots.write.Goals as goal

pub returns : goal.returns
returns c =
    let place : IsPlace c.self.inside.items.items c.args.key.now c.in-Some.place = rw (← c.as_slice.ensures.value) c.in-Some.ensures.found in
    rw (← c.self.view_is)
    (on_ok_weaker c.set_write.result
    (write-set c.self.inside.items.items
    (c.self.inside.items.items ++ record { key = c.args.key.now; write = Some c.args.value.now; read = NotRead } ∷ [])
    c.args.key.now c.args.value.now c.in-Some.place c.index_mut-slot.result.now c.set_write.new.self
    place c.index_mut-slot.ensures.value) c.set_write.ensures.ok)

pub invariant_of-self : goal.invariant_of-self
invariant_of-self c =
    let place : IsPlace c.self.inside.items.items c.args.key.now c.in-Some.place = rw (← c.as_slice.ensures.value) c.in-Some.ensures.found in
    IsSlots-set c.self.inside.items.items c.in-Some.place c.set_write.new.self c.index_mut-slot.result.now c.self.invariant place.within
    c.index_mut-slot.ensures.value c.set_write.ensures.key
