use Rattle.std.proofs.Common.{◌≤◌, ◌-◌, length, vec_capacity}
use Rattle.std.specs.Prelude.{All}
use Rattle.rc_disk.specs.MemFarms.{IsFirst}
use Rattle.rc_disk.proofs.mem_slot.empty_slots.Given as goal

abbrev pub invariant-filling : goal.invariant-filling
invariant-filling l = record {
  few : length l.slots.items ≤ 63;
  room : 63 ≤ vec_capacity l.slots;
  first : All (λ s. IsFirst s) l.slots.items;
}

abbrev pub decreases-filling : goal.decreases-filling
decreases-filling l = 63 - length l.slots.items
