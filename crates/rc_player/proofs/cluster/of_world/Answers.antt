use Rattle.std.proofs.Common.{List, ℕ, ◌∙◌, subst, Option}
use Rattle.rc_script.specs.declared.command.Command.TheVariants as commands
use Rattle.rc_script.specs.Spelling.{IsCommandOf}
use Rattle.rc_player.proofs.Clusters.{equal_there, weighted_there}
use Rattle.rc_player.proofs.cluster.of_world.Goals as goal

pub equal-requires : goal.equal-requires
equal-requires c = equal_there c.args.dcs c.args.shards c.args.weights.now c.args.later.now _ c.requires.world c.requires.later c.in_ok-splits.ensures

pub weighted-requires : goal.weighted-requires
weighted-requires c =
    let world = subst (λ (w : Option (List ℕ)). IsCommandOf 0 0 (commands.World c.args.dcs c.args.shards w)) c.in-Some.is c.requires.world in
    weighted_there c.args.dcs c.args.shards c.in-Some.weights _ c.args.later.now _ world c.requires.later c.in_ok-splits.ensures (c.in_ok-weights-in-Some.ensures.items ∙ c.as_slice.ensures)
