use Rattle.std.proofs.Common.{Some}
use Rattle.rc_disk.proofs.MemFarms.{Holds, holds}
use Rattle.rc_disk.proofs.mem_farm.MemFarmFarm.back.Goals as goal

put_back : (c : goal.After-self-1) → Holds c.args.self.now.slots.items c.put.new.slots.items c.args.node (Some c.args.disk)
put_back c = holds _ _ _ _ c.place_of-place.result c.place_of-place.ensures.place c.place_of-place.ensures.node c.args.self.now.whole c.put.ensures.slots

pub returns-clause-disk : goal.returns-clause-disk
returns-clause-disk c = (put_back c).stands

pub returns-clause-lent : goal.returns-clause-lent
returns-clause-lent c = (put_back c).lent

pub returns-clause-others_lent : goal.returns-clause-others_lent
returns-clause-others_lent c = (put_back c).others_lent

pub returns-clause-others : goal.returns-clause-others
returns-clause-others c = (put_back c).others

pub returns-clause-start : goal.returns-clause-start
returns-clause-start c = (put_back c).start

pub returns-clause-folder : goal.returns-clause-folder
returns-clause-folder c = let it = put_back c in record { of_folder = it.of_folder; others = it.others_folder; in_folder = it.in_folder }
