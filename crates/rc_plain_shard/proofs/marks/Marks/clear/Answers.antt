use Rattle.std.proofs.Common.{List, not, ◌==◌, ap, ◌∙◌, rules}
use Rattle.std.proofs.lemmas.Fn.{filter_same}
use Rattle.rc_protocol.specs.Shard.{Mark, cleared}
use Rattle.rc_plain_shard.proofs.marks.Marks.clear.Goals as goal

pub returns : goal.returns
returns c =
    filter_same _ (λ (m : Mark). not (m.1 == c.args.tx)) _ (λ x b f k. search rules) _ _ c.retain.ensures.filtered
    ∙ ap (λ (xs : List Mark). cleared xs c.args.tx) c.self.view_is
