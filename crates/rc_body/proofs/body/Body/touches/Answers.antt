use Rattle.std.proofs.Common.{◌==◌, ap, ◌∙◌}
use Rattle.rc_ids.specs.Cluster.{shard_of}
use Rattle.rc_body.specs.Bodies.{touches}
use Rattle.rc_body.proofs.BodyFacts.{list_any-keys}
use Rattle.rc_body.proofs.body.Body.touches.Goals as goal

pub returns : goal.returns
returns c =
    c.any_of_shard.ensures
    ∙ list_any-keys (λ k. shard_of c.args.cluster.now k == c.args.shard) c.self.inside.entries.entries
    ∙ ap (λ body. touches c.args.cluster.now body c.args.shard) c.self.view_is
