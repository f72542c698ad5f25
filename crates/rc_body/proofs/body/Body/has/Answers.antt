use Rattle.std.proofs.Common.{ap, ◌∙◌}
use Rattle.rc_body.specs.Bodies.{has_key}
use Rattle.rc_body.proofs.BodyFacts.{found-has_key}
use Rattle.rc_body.proofs.body.Body.has.Goals as goal

pub returns : goal.returns
returns c =
    c.contains_key.ensures ∙ found-has_key c.args.key.now c.self.inside.entries.entries
    ∙ ap (has_key c.args.key.now) c.self.view_is
