use Rattle.std.proofs.Common.{true, false, Some, [], ◌∷◌, ◌++◌, ap, sym, ◌∙◌, arith}
use Rattle.rc_record.specs.CoordState.{outcome_of}
use Rattle.rc_coord.proofs.PageRows.{fresh-absent, fresh-room, fresh-more, fresh-same}
use Rattle.rc_coord.proofs.RowFacts.{none_test}
use Rattle.rc_coord.proofs.pages.undecided.Goals as goal
use Rattle.rc_coord.proofs.pages.undecided.Goals.{then-is_none+in_ok-copy+in_ok-push, else-is_none}

pub push-requires-clause-room : goal.push-requires-clause-room
push-requires-clause-room c =
    fresh-room c.args.outcomes.now.entries c.args.page.now c.loop-index.fresh c.loop-index.index c.len-index-end.ensures.page (omega arith)
    c.loop-index.invariant

pub push-requires-clause-absent : goal.push-requires-clause-absent
push-requires-clause-absent c =
    fresh-absent c.args.outcomes.now.entries c.args.page.now c.loop-index.fresh c.loop-index.index c.entry-tx.result.0 c.entry-tx.result.1.now
    c.len-index-end.ensures.page c.entry-tx.ensures c.loop-index.invariant

pub loop-index-preserved : goal.loop-index-preserved
loop-index-preserved c =
    elim c.if-is_none.branch [
      | then-is_none+in_ok-copy+in_ok-push w ↦
          w.fresh-is ∙ w.in_ok-push.ensures.ok ∙ ap (λ xs. xs ++ ((c.entry-tx.result.0, w.in_ok-copy.field-0) ∷ [])) c.loop-index.invariant
          ∙ sym (fresh-more c.args.outcomes.now.entries c.args.page.now c.loop-index.index c.entry-tx.result.0 w.in_ok-copy.field-0
          (c.entry-tx.ensures ∙ ap (λ d. Some (c.entry-tx.result.0, d)) (sym w.in_ok-copy.ensures))
          (none_test c.get.result (outcome_of c.args.outcomes.now.entries c.entry-tx.result.0) true c.get.ensures w.if-is_none.ensures))
      | else-is_none w ↦
          w.fresh-is ∙ c.loop-index.invariant
          ∙ sym (fresh-same c.args.outcomes.now.entries c.args.page.now c.loop-index.index c.entry-tx.result.0 c.entry-tx.result.1.now c.entry-tx.ensures
          (none_test c.get.result (outcome_of c.args.outcomes.now.entries c.entry-tx.result.0) false c.get.ensures w.if-is_none.ensures))
    ]
