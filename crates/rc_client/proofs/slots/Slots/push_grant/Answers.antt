use Rattle.std.proofs.Common.{refl}
use Rattle.std.proofs.lemmas.Result.{on_ok_weaker}
use Rattle.rc_protocol.specs.Client.{Slot}
use Rattle.rc_client.specs.Slots.{IsPlace, granted_more}
use Rattle.rc_client.proofs.SlotFacts.{IsSlots-set, changed-set}
use Rattle.rc_client.proofs.slots.Slots.push_grant.Goals as goal

pub invariant_of-self : goal.invariant_of-self
invariant_of-self c =
    let place : IsPlace c.self.inside.items.items c.args.key.now c.in-Some.place = rw (← c.as_slice.ensures.value) c.in-Some.ensures.found in
    IsSlots-set c.self.inside.items.items c.in-Some.place c.push_grant.new.self c.index_mut-slot.result.now c.self.invariant place.within
    c.index_mut-slot.ensures.value c.push_grant.ensures.key

pub returns-clause-ok : goal.returns-clause-ok
returns-clause-ok c =
    let place : IsPlace c.self.inside.items.items c.args.key.now c.in-Some.place = rw (← c.as_slice.ensures.value) c.in-Some.ensures.found in
    rw (← c.self.view_is)
    (on_ok_weaker c.push_grant.result
    (changed-set (λ (s : Slot). granted_more s c.args.grant) c.self.inside.items.items c.self.inside.items.items c.args.key.now c.in-Some.place
    c.index_mut-slot.result.now c.push_grant.new.self place c.index_mut-slot.ensures.value refl) c.push_grant.ensures.ok)
