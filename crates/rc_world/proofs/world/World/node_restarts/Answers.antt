use Rattle.std.proofs.Common.{◌≡◌, false, subst}
use Rattle.rc_ids.specs.declared.names.NodeId.{NodeId}
use Rattle.rc_runs.specs.World.{is_up}
use Rattle.rc_world.proofs.Powered.{restarted_as}
use Rattle.rc_world.proofs.world.World.node_restarts.Goals as goal

pub returns-in-Coord-clause-ok : goal.returns-in-Coord-clause-ok
returns-in-Coord-clause-ok g c = λ r z is fits down told.
    restarted_as _ r z _ _ _ c.in-Coord.is c.coord_restarts.result (c.coord_restarts.ensures.ok r z is fits (subst (λ (n : NodeId). is_up z.world.parties n ≡ false) c.in-Coord.is down) told)

pub returns-in-Shard-clause-ok : goal.returns-in-Shard-clause-ok
returns-in-Shard-clause-ok g c = λ r z is fits down told.
    restarted_as _ r z _ _ _ c.in-Shard.is c.shard_restarts.result (c.shard_restarts.ensures.ok r z is fits (subst (λ (n : NodeId). is_up z.world.parties n ≡ false) c.in-Shard.is down) told)
