use Rattle.std.proofs.Common.{ℕ, List, filter, sym, ap, ◌∙◌}
use Rattle.rc_ids.specs.Tables.{added}
use Rattle.rc_protocol.specs.Shard.{Mark, mark_cmp, added_all, is_taken}
use Rattle.rc_plain_shard.proofs.Rest.{add_kept, add_left}
use Rattle.rc_plain_shard.proofs.marks.Marks.add_taken.Goals as goal

pub loop-mark-preserved-in-Continue-1 : goal.loop-mark-preserved-in-Continue-1
loop-mark-preserved-in-Continue-1 c =
    let p = is_taken c.args.tx c.args.part.now in
    ap (λ (ms : List Mark). added_all ms (filter p c.next.new.self))
    (c.in_ok-add.ensures ∙ ap (λ (k : List ℕ). added mark_cmp c.loop-mark.self (k, c.in-Some.mark.now.1)) c.copy.ensures)
    ∙ sym (add_kept p c.loop-mark.self c.next.new.self c.in-Some.mark.now (sym c.takes.ensures ∙ c.if-takes.true))
    ∙ sym (ap (λ (ms : List Mark). added_all c.loop-mark.self (filter p ms)) c.in-Some.ensures.steps) ∙ c.loop-mark.invariant

pub loop-mark-preserved : goal.loop-mark-preserved
loop-mark-preserved c =
    let p = is_taken c.args.tx c.args.part.now in
    sym (add_left p c.loop-mark.self c.next.new.self c.in-Some.mark.now (sym c.takes.ensures ∙ c.if-takes.false))
    ∙ sym (ap (λ (ms : List Mark). added_all c.loop-mark.self (filter p ms)) c.in-Some.ensures.steps) ∙ c.loop-mark.invariant
