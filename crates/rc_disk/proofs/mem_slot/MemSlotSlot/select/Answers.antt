use Rattle.std.proofs.Common.{◌≡◌, Option, Some, refl, sym, ap}
use Rattle.rc_disk.specs.Places.{Start}
use Rattle.rc_disk.specs.declared.mem_disk.MemDisk.{MemDisk}
use Rattle.rc_disk.specs.declared.mem_slot.MemSlot.{MemSlot}
use Rattle.rc_disk.proofs.MemFarms.{selects}
use Rattle.rc_disk.proofs.mem_slot.MemSlotSlot.select.Goals as goal

pub returns : goal.returns
returns c free =
    let here : c.args.self.now.here ≡ Some c.in-Some.disk = sym c.in-Some.ensures.value in
    selects c.args.folder c.args.self.now _ c.in-Some.disk c.take_folder-of_folder.result c.choose-disk.result c.renew.new.self c.marks-before.result.faults c.marks-before.result.cuts
    here c.take_folder-of_folder.ensures.disk c.choose-disk.ensures.disk c.choose-disk.ensures.empty (ap (λ (s : MemSlot). s.aside) c.choose-disk.ensures.same) refl c.renew.ensures.standing
    (ap (λ (s : Start). s.faults) c.marks-before.ensures) (ap (λ (s : Start). s.cuts) c.marks-before.ensures) c.marks-self.ensures
