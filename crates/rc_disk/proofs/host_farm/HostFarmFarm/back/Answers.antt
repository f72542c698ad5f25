use Rattle.rc_disk.proofs.HostFarms.{Has, has}
use Rattle.rc_disk.proofs.host_farm.HostFarmFarm.back.Goals as goal

put_back : (g : Rattle.rc_disk.proofs.host_farm.HostFarmFarm.back.Given.Over) (c : goal.After-self-1 g) → Has c.args.self.now.slots.items c.put.new.slots.items c.args.node c.place_for.result
put_back g c = has _ _ _ _ c.place_of-place.result c.place_of-place.ensures.place c.place_of-place.ensures.node c.args.self.now.whole c.put.ensures.slots

pub returns-clause-others_lent : goal.returns-clause-others_lent
returns-clause-others_lent g c = (put_back g c).others_lent

pub returns-clause-others : goal.returns-clause-others
returns-clause-others g c = (put_back g c).others

pub returns-clause-start : goal.returns-clause-start
returns-clause-start g c = (put_back g c).start
