use Rattle.std.proofs.Common.{◌≡◌, None, subst}
use Rattle.rc_ids.specs.declared.names.NodeId.{NodeId}
use Rattle.rc_runs.specs.Refusals.{wants_up}
use Rattle.rc_world.proofs.Powered.{stopped_as}
use Rattle.rc_world.proofs.world.World.node_crashes.Goals as goal

pub returns-in-Coord-clause-did : goal.returns-in-Coord-clause-did
returns-in-Coord-clause-did g c = λ r z is fits wanted.
    stopped_as _ r z _ _ _ c.in-Coord.is (c.coord_crashes.ensures.did r z is fits (subst (λ (n : NodeId). wants_up z.world.parties n ≡ None) c.in-Coord.is wanted))

pub returns-in-Shard-clause-did : goal.returns-in-Shard-clause-did
returns-in-Shard-clause-did g c = λ r z is fits wanted.
    stopped_as _ r z _ _ _ c.in-Shard.is (c.shard_crashes.ensures.did r z is fits (subst (λ (n : NodeId). wants_up z.world.parties n ≡ None) c.in-Shard.is wanted))
