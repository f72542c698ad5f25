use Rattle.std.proofs.Common.{List, false, sym, ◌∙◌, ap}
use Rattle.std.specs.Prelude.{if◌then◌else◌}
use Rattle.rc_ids.specs.Cluster.{is_dc}
use Rattle.rc_protocol.specs.Nodes.{coord_index, shard_index}
use Rattle.rc_begin.specs.Hosts.{is_up_at}
use Rattle.rc_ids.specs.declared.names.NodeId.{NodeId}
use Rattle.rc_runs.specs.World.{is_up, is_shard_of}
use Rattle.rc_world.specs.Words.{parts_of}
use Rattle.rc_world.proofs.Standings.{coord_up, shard_up}
use Rattle.rc_world.proofs.world.World.is_up.Goals as goal

pub returns-in-Coord : goal.returns-in-Coord
returns-in-Coord g c = λ r z is.
    c.is_coord_up.ensures ∙ ap (λ (hosts : List _). if is_dc c.args.self.now.cluster c.in-Coord.dc then is_up_at hosts (coord_index c.in-Coord.dc) else false) c.as_slice.ensures.value ∙ coord_up _ r (parts_of c.args.self.now) z.world.parties z.coords z.shards is.parties c.in-Coord.dc ∙ sym (ap (λ (n : NodeId). is_up z.world.parties n) c.in-Coord.is)

pub returns-in-Shard : goal.returns-in-Shard
returns-in-Shard g c = λ r z is.
    c.is_shard_up.ensures
    ∙ ap (λ (hosts : List _). if is_shard_of c.args.self.now.cluster c.in-Shard.dc c.in-Shard.shard then is_up_at hosts (shard_index c.args.self.now.cluster c.in-Shard.dc c.in-Shard.shard) else false) c.as_slice-in-Shard.ensures.value ∙ shard_up _ r (parts_of c.args.self.now) z.world.parties z.coords z.shards is.parties c.in-Shard.dc c.in-Shard.shard ∙ sym (ap (λ (n : NodeId). is_up z.world.parties n) c.in-Shard.is)
