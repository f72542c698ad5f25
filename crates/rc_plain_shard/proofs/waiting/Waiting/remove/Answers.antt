use Rattle.std.proofs.Common.{List, filter, ap, ◌∙◌, rules}
use Rattle.std.proofs.lemmas.Fn.{filter_same}
use Rattle.rc_protocol.specs.Shard.{Mark, is_other}
use Rattle.rc_plain_shard.proofs.waiting.Waiting.remove.Goals as goal

pub returns : goal.returns
returns c =
    filter_same _ (is_other c.args.removed.now) _ (λ x b f k. search rules) _ _ c.retain.ensures.filtered
    ∙ ap (λ (xs : List Mark). filter (is_other c.args.removed.now) xs) c.self.view_is
