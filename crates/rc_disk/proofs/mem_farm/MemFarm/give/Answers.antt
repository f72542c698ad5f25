use Rattle.rc_disk.proofs.MemFarms.{Given, was_given}
use Rattle.rc_disk.proofs.mem_farm.MemFarm.give.Goals as goal

after_giving : (c : goal.After-self-1) → Given c.args.self.now.slots.items c.give.new.slots.items c.args.node c.args.disk
after_giving c = was_given _ _ _ _ c.place_of-place.result c.place_of-place.ensures.place c.place_of-place.ensures.node c.args.self.now.whole c.requires c.give.ensures.slots

pub returns-clause-lent : goal.returns-clause-lent
returns-clause-lent c = (after_giving c).lent

pub returns-clause-others : goal.returns-clause-others
returns-clause-others c = (after_giving c).others

pub returns-clause-folder : goal.returns-clause-folder
returns-clause-folder c =
    let it = after_giving c in
    record { of_folder = it.of_folder; stands = it.stands; others = it.others_folder; in_folder = it.in_folder; start = it.start }
