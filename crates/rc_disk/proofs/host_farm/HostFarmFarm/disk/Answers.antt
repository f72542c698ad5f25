use Rattle.std.proofs.Common.{◌≡◌, ℕ, List, length, None, sym, ap, subst, ◌∙◌}
use Rattle.rc_disk.specs.HostFarms.{place_standing}
use Rattle.rc_disk.specs.declared.file_disk.FileState.{FileState}
use Rattle.rc_disk.specs.declared.host_slot.HostPlace.TheVariants.{Counted, Lent}
use Rattle.rc_disk.specs.declared.host_slot.HostSlot.{HostSlot}
use Rattle.rc_disk.proofs.HostFarms.{Has, has, had}
use Rattle.rc_disk.proofs.host_farm.HostFarmFarm.disk.Given.{Over}
use Rattle.rc_disk.proofs.host_farm.HostFarmFarm.disk.Goals as goal

memory_out : (g : Over) (c : goal.In-Memory g) → Has c.args.self.now.slots.items c.lend.new.slots.items c.args.node Lent
memory_out g c = has _ _ _ _ c.place_of-place.result c.place_of-place.ensures.place c.place_of-place.ensures.node c.args.self.now.whole c.lend.ensures.slots

pub returns-in_default-clause-others_lent : goal.returns-in_default-clause-others_lent
returns-in_default-clause-others_lent g c = (memory_out g c).others_lent

pub returns-in_default-clause-others : goal.returns-in_default-clause-others
returns-in_default-clause-others g c = (memory_out g c).others

pub returns-in_default-clause-start : goal.returns-in_default-clause-start
returns-in_default-clause-start g c = (memory_out g c).start

file_out : (g : Over) (c : goal.After-self-2-1 g) → Has c.args.self.now.slots.items c.put.new.slots.items c.args.node Lent
file_out g c =
    let same : c.open.new.self.slots.items ≡ c.args.self.now.slots.items = ap (λ v. v.items) c.open.ensures.slots in
    subst (λ (l : List HostSlot). Has l c.put.new.slots.items c.args.node Lent) same
    (has _ _ _ _ c.place_of-place.result c.place_of-place.ensures.place c.place_of-place.ensures.node (ap length same ∙ c.args.self.now.whole) c.put.ensures.slots)

pub returns-clause-disk : goal.returns-clause-disk
returns-clause-disk g c =
    had c.args.self.now.slots.items c.args.node (Counted c.in-Some.state) c.place_of-place.result c.place_of-place.ensures.place c.place_of-place.ensures.node c.args.self.now.whole (λ d. c.in-Some.ensures d)
    ∙ ap (λ (s : FileState). place_standing (Counted s)) (sym c.in_ok-disk.ensures.state)

pub returns-clause-lent : goal.returns-clause-lent
returns-clause-lent g c = (file_out g c).lent

pub returns-clause-others_lent : goal.returns-clause-others_lent
returns-clause-others_lent g c = (file_out g c).others_lent

pub returns-clause-others : goal.returns-clause-others
returns-clause-others g c = (file_out g c).others

pub returns-clause-start : goal.returns-clause-start
returns-clause-start g c = (file_out g c).start
