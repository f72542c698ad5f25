use Rattle.std.proofs.Common.{◌≡◌, None, subst}
use Rattle.rc_ids.specs.declared.names.NodeId.{NodeId}
use Rattle.rc_runs.specs.Refusals.{wants_up}
use Rattle.rc_world.proofs.Powered.{armed_as}
use Rattle.rc_world.proofs.world.World.node_is_armed.Goals as goal

pub returns-in-Coord-clause-did : goal.returns-in-Coord-clause-did
returns-in-Coord-clause-did g c = λ r z is fits wanted.
    armed_as _ r z _ _ _ c.in-Coord.is c.args.k c.args.pick (c.coord_is_armed.ensures.did r z is fits (subst (λ (n : NodeId). wants_up z.world.parties n ≡ None) c.in-Coord.is wanted))

pub returns-in-Shard-clause-did : goal.returns-in-Shard-clause-did
returns-in-Shard-clause-did g c = λ r z is fits wanted.
    armed_as _ r z _ _ _ c.in-Shard.is c.args.k c.args.pick (c.shard_is_armed.ensures.did r z is fits (subst (λ (n : NodeId). wants_up z.world.parties n ≡ None) c.in-Shard.is wanted))
