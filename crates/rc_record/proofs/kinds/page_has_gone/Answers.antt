use Rattle.std.proofs.Common.{ℕ, sym, ◌∙◌}
use Rattle.rc_body.specs.declared.decision.Decision.{Decision}
use Rattle.rc_record.specs.Kinds.{decision_has_gone}
use Rattle.rc_record.proofs.Rest.{any_here, any_later}
use Rattle.rc_record.proofs.kinds.page_has_gone.Goals as goal

pub returns-then-decision_has_gone : goal.returns-then-decision_has_gone
returns-then-decision_has_gone c =
    any_here (λ (e : ℕ × Decision). decision_has_gone e.1) c.args.page.now c.loop-index.index _ c.entry.ensures c.loop-index.invariant
    (sym c.decision_has_gone.ensures ∙ c.if-decision_has_gone.true)

pub loop-index-preserved : goal.loop-index-preserved
loop-index-preserved c =
    any_later (λ (e : ℕ × Decision). decision_has_gone e.1) c.args.page.now c.loop-index.index _ c.entry.ensures c.loop-index.invariant
    (sym c.decision_has_gone.ensures ∙ c.if-decision_has_gone.false)
