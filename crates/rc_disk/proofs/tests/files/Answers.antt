use Rattle.rc_ids.specs.declared.names.NodeId.TheVariants.{Shard}
use Rattle.rc_disk.proofs.tests.files.Goals as goal

pub disk-requires : goal.disk-requires
disk-requires g c = c.select.ensures.lent (Shard 1 2)

pub disk-requires-2 : goal.disk-requires-2
disk-requires-2 g c = c.select-2.ensures.lent (Shard 1 2)
