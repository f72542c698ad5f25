use Rattle.std.proofs.Common.{◌≡◌, ◌≤◌, ℕ, List, [], ◌∷◌, ◌++◌, false, length, sym, ap, subst, ◌∙◌, arith, length-append}
use Rattle.std.specs.Prelude.{All}
use Rattle.rc_disk.specs.HostFarms.{slot_is_lent}
use Rattle.std.proofs.lemmas.List.Elements.{All-push}
use Rattle.rc_disk.specs.declared.host_slot.HostSlot.{HostSlot}
use Rattle.rc_disk.proofs.host_slot.empty_slots.Goals as goal

pub filling-preserved : goal.filling-preserved
filling-preserved c =
    let IsHere : HostSlot → Type 0 = λ s. slot_is_lent s ≡ false in
    let push = c.push_reserved.ensures in
    record {
      few = omega (arith, ap length push.items, length-append c.filling.slots.items (c.new.result ∷ []), c.filling-test.true, c.len.ensures);
      room = omega (arith, push.capacity, c.filling.invariant.room);
      here = subst (λ (l : List HostSlot). All IsHere l) (sym push.items) (All-push IsHere c.filling.slots.items c.new.result c.filling.invariant.here c.new.ensures);
    }
