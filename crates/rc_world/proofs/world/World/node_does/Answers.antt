use Rattle.std.proofs.Common.{ap, ◌∙◌}
use Rattle.rc_ids.specs.declared.names.NodeId.{NodeId}
use Rattle.rc_ids.specs.declared.names.Party.TheVariants.{Node}
use Rattle.rc_host.specs.Causes.{cause_of}
use Rattle.rc_world.specs.Steps.{node_does}
use Rattle.rc_world.proofs.world.World.node_does.Goals as goal

pub returns-in-Coord-clause-ok : goal.returns-in-Coord-clause-ok
returns-in-Coord-clause-ok g c = λ r z e is spelled done is_deed who named no_begin coords_told shards_told.
    c.coord_does.ensures.ok r z e is spelled done (is_deed ∙ ap (λ (n : NodeId). node_does z.world.parties n (cause_of c.args.cause.now)) c.in-Coord.is) (who ∙ ap Node c.in-Coord.is) named no_begin coords_told

pub returns-in-Shard-clause-ok : goal.returns-in-Shard-clause-ok
returns-in-Shard-clause-ok g c = λ r z e is spelled done is_deed who named no_begin coords_told shards_told.
    c.shard_does.ensures.ok r z e is spelled done (is_deed ∙ ap (λ (n : NodeId). node_does z.world.parties n (cause_of c.args.cause.now)) c.in-Shard.is) (who ∙ ap Node c.in-Shard.is) named no_begin shards_told
