use Rattle.rc_ids.specs.declared.names.NodeId.TheVariants.{Coord}
use Rattle.rc_disk.proofs.tests.in_memory.Goals as goal

pub give-requires : goal.give-requires
give-requires g c = c.in_ok-farm.ensures.lent (Coord 2)

pub disk-requires : goal.disk-requires
disk-requires g c = c.select-2.ensures.lent (Coord 2)
