use Rattle.std.proofs.Common.{◌≤◌, ℕ, List, [], ◌∷◌, ◌++◌, length, take, sym, ap, ◌∙◌, arith}
use Rattle.rc_shard.specs.Rows.{only_finished}
use Rattle.std.proofs.lemmas.List.{length-take}
use Rattle.rc_body.specs.Pages.{has_tx}
use Rattle.rc_body.specs.declared.decision.Decision.{Decision}
use Rattle.rc_body.proofs.PageFacts.{TxsDiffer-before}
use Rattle.rc_protocol.specs.Shard.{unfinished}
use Rattle.rc_shard.proofs.PageFacts.{unfinished-kept, unfinished-left, length-unfinished, has_tx-unfinished}
use Rattle.rc_shard.proofs.pages.unfinished.Goals as goal
use Rattle.rc_shard.proofs.pages.unfinished.Goals.{then-is_new+in_ok-cut_to_part+in_ok-push, else-is_new}

pub push-requires-clause-room : goal.push-requires-clause-room
push-requires-clause-room c =
    let page : List (ℕ × Decision) = take c.loop-index.index c.args.page.now in
    let few : length (unfinished c.args.home.now.cluster c.args.home.now.shard (only_finished c.args.finished.now.table) page) ≤ length page =
    length-unfinished c.args.home.now.cluster c.args.home.now.shard (only_finished c.args.finished.now.table) page in
    omega (arith, ap length c.loop-index.invariant, length-take c.loop-index.index c.args.page.now)

pub push-requires-clause-absent : goal.push-requires-clause-absent
push-requires-clause-absent c =
    ap (has_tx c.entry-tx.result.0) c.loop-index.invariant
    ∙ has_tx-unfinished c.args.home.now.cluster c.args.home.now.shard (only_finished c.args.finished.now.table) c.entry-tx.result.0 (take c.loop-index.index c.args.page.now)
    (TxsDiffer-before c.args.page.now c.loop-index.index c.entry-tx.result.0 c.entry-tx.result.1.now
    c.len-index-end.ensures.page.apart c.entry-tx.ensures)

pub loop-index-preserved : goal.loop-index-preserved
loop-index-preserved c =
    let t = c.entry-tx.result.0 in
    let before = unfinished c.args.home.now.cluster c.args.home.now.shard (only_finished c.args.finished.now.table) (take c.loop-index.index c.args.page.now) in
    elim c.if-is_new.branch [
      | then-is_new+in_ok-cut_to_part+in_ok-push w ↦
          w.left-is ∙ w.in_ok-push.ensures.ok
          ∙ ap (λ (xs : List (ℕ × Decision)). xs ++ (t, w.in_ok-cut_to_part.field-0) ∷ []) c.loop-index.invariant
          ∙ ap (λ (d : Decision). before ++ (t, d) ∷ []) w.in_ok-cut_to_part.ensures
          ∙ sym (unfinished-kept c.args.home.now.cluster c.args.home.now.shard (only_finished c.args.finished.now.table) c.args.page.now c.loop-index.index t
          c.entry-tx.result.1.now c.entry-tx.ensures (sym c.is_new.ensures ∙ w.if-is_new.true))
      | else-is_new w ↦
          w.left-is ∙ c.loop-index.invariant
          ∙ sym (unfinished-left c.args.home.now.cluster c.args.home.now.shard (only_finished c.args.finished.now.table) c.args.page.now c.loop-index.index t
          c.entry-tx.result.1.now c.entry-tx.ensures (sym c.is_new.ensures ∙ w.if-is_new.false))
    ]
