use Rattle.std.proofs.Common.{◌≡◌, length, drop, ◌∙◌}
use Rattle.rc_protocol.specs.Client.{reads_begun}
use Rattle.rc_client.proofs.SlotFacts.{IsSlots-begun, begun-all, begun-done, begun-left, shown}
use Rattle.rc_client.proofs.slots.Slots.begin_reads.Goals as goal

pub invariant_of-self : goal.invariant_of-self
invariant_of-self c =
    let all : c.loop-slot.slot-items ≡ reads_begun c.self.inside.items.items =
    rw (← c.deref_mut-slot-items.ensures.value)
    (begun-all c.loop-slot.slot-items c.deref_mut-slot-items.result.now c.loop-slot.slot-index c.loop-slot.auto.slot-items
    c.loop-slot-test.false c.loop-slot.invariant.done) in
    rw (
      shown c.self.inside.items.len c.loop-slot.slot-items (drop (length c.loop-slot.slot-items) c.self.inside.items.items)
          (c.loop-slot.auto.slot-items ∙ c.deref_mut-slot-items.ensures.len),
      all,
    )
    (IsSlots-begun c.self.inside.items.items c.self.invariant)

pub loop-slot-preserved : goal.loop-slot-preserved
loop-slot-preserved c = record {
  done = begun-done c.loop-slot.slot-items c.deref_mut-slot-items.result.now c.loop-slot.slot-index c.slot-item.result c.begin_read.new.self
      c.loop-slot-test.true c.loop-slot.auto.slot-items c.loop-slot.invariant.done c.loop-slot.invariant.left c.begin_read.ensures;
  left = begun-left c.loop-slot.slot-items c.deref_mut-slot-items.result.now c.loop-slot.slot-index c.slot-item.result c.begin_read.new.self
      c.loop-slot-test.true c.loop-slot.auto.slot-items c.loop-slot.invariant.left;
}
