use Rattle.std.proofs.Common.{ℕ, ◌+◌, List, filter, drop, Vec, Global, vec_len, vec_capacity, sym, ap, ◌∙◌, arith}
use Rattle.rc_ids.specs.Tables.{added}
use Rattle.rc_protocol.specs.Shard.{Mark, mark_cmp, added_all, is_taken}
use Rattle.rc_locks.proofs.Rest.{item_at, rest_end, add_kept, add_left}
use Rattle.rc_locks.proofs.PlaceFacts.{drop_less}
use Rattle.rc_locks.proofs.marks.add_taken.Goals as goal
use Rattle.rc_locks.proofs.marks.add_taken.Goals.{then-takes, else-takes}

pub add-requires : goal.add-requires
add-requires c =
    let less = drop_less c.args.plain.now c.loop-mark.mark-index c.loop-mark-test.true in
    let room = c.loop-mark.invariant.1 in
    omega (arith, less, room)

pub loop-mark-preserved : goal.loop-mark-preserved
loop-mark-preserved c =
    let p = is_taken c.args.tx c.args.part.now in
    let x : Mark = c.mark-item.result in
    let xs : List Mark = c.args.plain.now in
    let lost : List Mark = c.loop-mark.lost.items in
    let rest : List Mark = drop (c.loop-mark.mark-index + 1) xs in
    let at = item_at xs c.loop-mark.mark-index x c.loop-mark-test.true c.mark-item.is in
    let less = drop_less xs c.loop-mark.mark-index c.loop-mark-test.true in
    let room = c.loop-mark.invariant.1 in
    let before = sym (ap (λ (ms : List Mark). added_all lost (filter p ms)) at) ∙ c.loop-mark.invariant.0 in
    elim c.if-takes.branch [
      | then-takes w ↦ (
        ap (λ (ms : List Mark). added_all ms (filter p rest))
            (ap (λ (v : Vec Mark Global). v.items) w.lost-is ∙ w.add.ensures.items ∙ ap (λ (k : List ℕ). added mark_cmp lost (k, x.1)) w.copy.ensures)
            ∙ sym (add_kept p lost rest x (sym c.takes.ensures ∙ w.if-takes.true)) ∙ before,
        let len = ap vec_len w.lost-is in let capacity = ap vec_capacity w.lost-is in
            omega (arith, less, room, len, capacity, w.add.ensures.few, w.add.ensures.capacity),
      )
      | else-takes w ↦ (
        ap (λ (ms : List Mark). added_all ms (filter p rest)) (ap (λ (v : Vec Mark Global). v.items) w.lost-is)
            ∙ sym (add_left p lost rest x (sym c.takes.ensures ∙ w.if-takes.false)) ∙ before,
        let len = ap vec_len w.lost-is in let capacity = ap vec_capacity w.lost-is in
            omega (arith, less, room, len, capacity),
      )
    ]

pub returns : goal.returns
returns c =
    sym (ap (λ (ms : List Mark). added_all c.loop-mark.lost.items (filter (is_taken c.args.tx c.args.part.now) ms)) (rest_end c.args.plain.now c.loop-mark.mark-index c.loop-mark-test.false))
    ∙ c.loop-mark.invariant.0
