use Rattle.std.proofs.Common.{ℕ, ◌+◌, List, drop, sym, ap, ◌∙◌, arith}
use Rattle.rc_ids.specs.Tables.{added}
use Rattle.rc_protocol.specs.Shard.{Mark, mark_cmp, added_all}
use Rattle.rc_locks.proofs.Rest.{item_at, rest_end}
use Rattle.rc_locks.proofs.PlaceFacts.{drop_less}
use Rattle.rc_locks.proofs.marks.add_all.Goals as goal

pub add-requires : goal.add-requires
add-requires c =
    let less = drop_less c.args.more.now c.loop-mark.mark-index c.loop-mark-test.true in
    let room = c.loop-mark.invariant.1 in
    omega (arith, less, room)

pub loop-mark-preserved : goal.loop-mark-preserved
loop-mark-preserved c =
    let x : Mark = c.mark-item.result in
    let xs : List Mark = c.args.more.now in
    let marks : List Mark = c.loop-mark.marks.items in
    let rest : List Mark = drop (c.loop-mark.mark-index + 1) xs in
    let at = item_at xs c.loop-mark.mark-index x c.loop-mark-test.true c.mark-item.is in
    let less = drop_less xs c.loop-mark.mark-index c.loop-mark-test.true in
    let room = c.loop-mark.invariant.1 in (
      ap (λ (ms : List Mark). added_all ms rest) (c.add.ensures.items ∙ ap (λ (k : List ℕ). added mark_cmp marks (k, x.1)) c.copy.ensures)
          ∙ sym (ap (λ (ms : List Mark). added_all marks ms) at) ∙ c.loop-mark.invariant.0,
      omega (arith, less, room, c.add.ensures.few, c.add.ensures.capacity),
    )

pub returns : goal.returns
returns c =
    sym (ap (λ (ms : List Mark). added_all c.loop-mark.marks.items ms) (rest_end c.args.more.now c.loop-mark.mark-index c.loop-mark-test.false))
    ∙ c.loop-mark.invariant.0
