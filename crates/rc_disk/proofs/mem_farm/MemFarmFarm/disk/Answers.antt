use Rattle.std.proofs.Common.{◌≡◌, ℕ, List, length, None, sym, ap, subst, ◌∙◌}
use Rattle.rc_disk.specs.Shelves.{stands_in, start_in, lent_in}
use Rattle.rc_disk.specs.MemFarms.{slot_standing, slot_start, slot_is_lent}
use Rattle.rc_disk.specs.declared.mem_slot.MemSlot.{MemSlot}
use Rattle.rc_disk.proofs.MemFarms.{Holds, holds}
use Rattle.rc_disk.proofs.mem_farm.MemFarmFarm.disk.Goals as goal

taken_out : (c : goal.After-unwrap) → Holds c.args.self.now.slots.items c.lend.new.slots.items c.args.node None
taken_out c =
    let same : c.counts.new.self.slots.items ≡ c.args.self.now.slots.items = ap (λ v. v.items) c.counts.ensures.slots in
    subst (λ (l : List MemSlot). Holds l c.lend.new.slots.items c.args.node None) same
    (holds _ _ _ _ c.place_of-place.result c.place_of-place.ensures.place c.place_of-place.ensures.node (ap length same ∙ c.args.self.now.whole) c.lend.ensures.slots)

pub returns-clause-lent : goal.returns-clause-lent
returns-clause-lent c = (taken_out c).lent

pub returns-clause-others_lent : goal.returns-clause-others_lent
returns-clause-others_lent c = (taken_out c).others_lent

pub returns-clause-others : goal.returns-clause-others
returns-clause-others c = (taken_out c).others

pub returns-clause-start : goal.returns-clause-start
returns-clause-start c = (taken_out c).start

pub returns-clause-folder : goal.returns-clause-folder
returns-clause-folder c = let it = taken_out c in record { of_folder = it.of_folder; others = it.others_folder; in_folder = it.in_folder }
