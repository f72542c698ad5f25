use Rattle.std.proofs.Common.{◌≡◌, false}
use Rattle.rc_disk.specs.Shelves.{Walked}
use Rattle.rc_disk.proofs.shelf.select_all.Given as goal

abbrev pub invariant-loop-slot : goal.invariant-loop-slot
invariant-loop-slot g l = Walked (λ x y. g.S.Slot.is_lent x ≡ false → g.S.Slot.selects l.folder x y) l.fn.slots l.slots l.slot-index
