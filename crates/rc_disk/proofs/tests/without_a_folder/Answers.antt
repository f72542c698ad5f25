use Rattle.rc_ids.specs.declared.names.NodeId.TheVariants.{Coord}
use Rattle.rc_disk.proofs.tests.without_a_folder.Goals as goal

pub disk-requires : goal.disk-requires
disk-requires g c = c.select.ensures.lent (Coord 1)
