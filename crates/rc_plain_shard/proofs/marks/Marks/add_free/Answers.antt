use Rattle.std.proofs.Common.{ℕ, ◌+◌, List, filter, drop, sym, ap, ◌∙◌}
use Rattle.rc_ids.specs.Tables.{added}
use Rattle.rc_protocol.specs.Shard.{Mark, mark_cmp, added_all, is_free}
use Rattle.rc_plain_shard.proofs.Rest.{item_at, add_kept, add_left}
use Rattle.rc_plain_shard.proofs.marks.Marks.add_free.Goals as goal
use Rattle.rc_plain_shard.proofs.marks.Marks.add_free.Goals.{then-is_free+in_ok-add, else-is_free}

pub loop-mark-preserved : goal.loop-mark-preserved
loop-mark-preserved c =
    let p = is_free c.args.parts.now in
    let x : Mark = c.mark-item.result in
    let xs : List Mark = c.deref-mark-items.result.now in
    let rest : List Mark = drop (c.loop-mark.mark-index + 1) xs in
    let at = item_at xs c.loop-mark.mark-index x c.loop-mark-test.true c.mark-item.is in
    let before = sym (ap (λ (ms : List Mark). added_all c.loop-mark.self (filter p ms)) at) ∙ c.loop-mark.invariant in
    elim c.if-is_free.branch [
      | then-is_free+in_ok-add w ↦
          ap (λ (ms : List Mark). added_all ms (filter p rest))
          (w.self-is ∙ w.in_ok-add.ensures ∙ ap (λ (k : List ℕ). added mark_cmp c.loop-mark.self (k, x.1)) w.copy.ensures)
          ∙ sym (add_kept p c.loop-mark.self rest x (sym c.is_free.ensures ∙ w.if-is_free.true)) ∙ before
      | else-is_free w ↦
          ap (λ (ms : List Mark). added_all ms (filter p rest)) w.self-is
          ∙ sym (add_left p c.loop-mark.self rest x (sym c.is_free.ensures ∙ w.if-is_free.false)) ∙ before
    ]
