use Rattle.std.proofs.Common.{◌≤◌, ℕ, List, [], ◌∷◌, ◌++◌, length, sym, ap, subst, arith, length-append}
use Rattle.std.specs.Prelude.{All}
use Rattle.std.proofs.lemmas.List.Elements.{All-push}
use Rattle.rc_disk.specs.MemFarms.{IsFirst}
use Rattle.rc_disk.specs.declared.mem_slot.MemSlot.{MemSlot}
use Rattle.rc_disk.proofs.mem_slot.empty_slots.Goals as goal

pub filling-preserved : goal.filling-preserved
filling-preserved c =
    let push = c.push_reserved.ensures in
    record {
      few = omega (arith, ap length push.items, length-append c.filling.slots.items (c.new.result ∷ []), c.filling-test.true, c.len.ensures);
      room = omega (arith, push.capacity, c.filling.invariant.room);
      first = subst (λ (l : List MemSlot). All (λ s. IsFirst s) l) (sym push.items) (All-push (λ s. IsFirst s) c.filling.slots.items c.new.result c.filling.invariant.first c.new.ensures);
    }
