use Rattle.rc_starts.proofs.Names as names
use Rattle.rc_starts.proofs.names_follow.Goals as goal

pub returns-clause-coords : goal.returns-clause-coords
returns-clause-coords c = names.coord_names_follow

pub returns-clause-shards : goal.returns-clause-shards
returns-clause-shards c = names.shard_names_follow
