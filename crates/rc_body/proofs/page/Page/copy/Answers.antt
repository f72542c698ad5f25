use Rattle.std.proofs.Common.{Some, [], ◌∷◌, ◌++◌, ap, sym, ◌∙◌}
use Rattle.rc_body.specs.Pages.{has_tx}
use Rattle.rc_body.proofs.Places.{take-one_more}
use Rattle.rc_body.proofs.PageFacts.{TxsDiffer-before}
use Rattle.rc_body.proofs.page.Page.copy.Goals as goal

pub push-requires-clause-absent : goal.push-requires-clause-absent
push-requires-clause-absent c =
    ap (has_tx c.entry-tx.result.0) c.loop-index.invariant
    ∙ TxsDiffer-before c.args.self.now c.loop-index.index c.entry-tx.result.0 c.entry-tx.result.1.now
    c.len-index-end.ensures.page.apart c.entry-tx.ensures

pub loop-index-preserved : goal.loop-index-preserved
loop-index-preserved c =
    c.in_ok-push.ensures.ok
    ∙ ap (λ xs. xs ++ ((c.entry-tx.result.0, c.in_ok-copy.field-0) ∷ [])) c.loop-index.invariant
    ∙ sym (take-one_more c.args.self.now c.loop-index.index (c.entry-tx.result.0, c.in_ok-copy.field-0)
    (c.entry-tx.ensures ∙ ap (λ d. Some (c.entry-tx.result.0, d)) (sym c.in_ok-copy.ensures)))
