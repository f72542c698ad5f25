use Rattle.std.proofs.Common.{[], ◌∷◌, sym, ap, ◌∙◌}
use Rattle.std.proofs.lemmas.Result.{on_ok_weaker}
use Rattle.rc_body.specs.declared.decision.Decision.{Decision}
use Rattle.rc_plain_shard.proofs.Acted.{finish_acts}
use Rattle.rc_plain_shard.proofs.shard.Shard.finish.Goals as goal

pub returns : goal.returns
returns c =
    on_ok_weaker c.settle.result
    (finish_acts c.args.dc c.args.tx c.args.self.now c.settle.new.self c.args.decision.now c.in_ok-page.page c.args.out.now c.settle.new.out
    (sym c.is_finished.ensures ∙ c.if-is_finished.false)
    (c.in_ok-page.ensures ∙ ap (λ (d : Decision). (c.args.tx, d) ∷ []) c.in_ok-copy.ensures))
    c.settle.ensures
