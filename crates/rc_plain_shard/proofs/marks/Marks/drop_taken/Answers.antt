use Rattle.std.proofs.Common.{List, not, filter, ap, ◌∙◌, rules}
use Rattle.std.proofs.lemmas.Fn.{filter_same}
use Rattle.rc_protocol.specs.Shard.{Mark, is_taken}
use Rattle.rc_plain_shard.proofs.marks.Marks.drop_taken.Goals as goal

pub returns : goal.returns
returns c =
    filter_same _ (λ (m : Mark). not (is_taken c.args.tx c.args.part.now m)) _ (λ x b f k. search rules) _ _ c.retain.ensures.filtered
    ∙ ap (λ (xs : List Mark). filter (λ (m : Mark). not (is_taken c.args.tx c.args.part.now m)) xs) c.self.view_is
