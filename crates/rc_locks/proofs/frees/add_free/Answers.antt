use Rattle.std.proofs.Common.{ℕ, ◌+◌, List, [], ◌∷◌, ◌++◌, filter, drop, Vec, Global, vec_len, vec_capacity, sym, ap, ◌∙◌, arith}
use Rattle.rc_protocol.specs.Shard.{Mark}
use Rattle.rc_locks.specs.Cells.{is_free_at}
use Rattle.rc_locks.proofs.Rest.{item_at, rest_end}
use Rattle.rc_locks.proofs.PlaceFacts.{drop_less, kept_at, left_at, nothing_more}
use Rattle.rc_locks.proofs.frees.add_free.Goals as goal
use Rattle.rc_locks.proofs.frees.add_free.Goals.{then-is_free, else-is_free}

pub push_reserved-requires : goal.push_reserved-requires
push_reserved-requires c =
    let less = drop_less c.args.waiting.now c.loop-mark.mark-index c.loop-mark-test.true in
    let room = c.loop-mark.invariant.1 in
    omega (arith, less, room)

pub loop-mark-preserved : goal.loop-mark-preserved
loop-mark-preserved c =
    let p = is_free_at c.args.cells.now.entries in
    let x : Mark = c.mark-item.result in
    let xs : List Mark = c.args.waiting.now in
    let freed : List Mark = c.loop-mark.freed.items in
    let rest : List Mark = drop (c.loop-mark.mark-index + 1) xs in
    let at = item_at xs c.loop-mark.mark-index x c.loop-mark-test.true c.mark-item.is in
    let less = drop_less xs c.loop-mark.mark-index c.loop-mark-test.true in
    let room = c.loop-mark.invariant.1 in
    let before = sym (ap (λ (ms : List Mark). freed ++ filter p ms) at) ∙ c.loop-mark.invariant.0 in
    elim c.if-is_free.branch [
      | then-is_free w ↦
          let len = ap vec_len w.freed-is in let capacity = ap vec_capacity w.freed-is in (
            ap (λ (ms : List Mark). ms ++ filter p rest)
                (ap (λ (v : Vec Mark Global). v.items) w.freed-is ∙ w.push_reserved.ensures.items ∙ ap (λ (k : List ℕ). freed ++ (k, x.1) ∷ []) w.copy.ensures)
                ∙ kept_at p freed rest x (sym c.is_free.ensures ∙ w.if-is_free.true) ∙ before,
            omega (arith, less, room, len, capacity, w.push_reserved.ensures.len, w.push_reserved.ensures.capacity),
          )
      | else-is_free w ↦
          let len = ap vec_len w.freed-is in let capacity = ap vec_capacity w.freed-is in (
            ap (λ (ms : List Mark). ms ++ filter p rest) (ap (λ (v : Vec Mark Global). v.items) w.freed-is)
                ∙ left_at p freed rest x (sym c.is_free.ensures ∙ w.if-is_free.false) ∙ before,
            omega (arith, less, room, len, capacity),
          )
    ]

pub returns : goal.returns
returns c =
    nothing_more (is_free_at c.args.cells.now.entries) c.loop-mark.freed.items (drop c.loop-mark.mark-index c.args.waiting.now) (rest_end c.args.waiting.now c.loop-mark.mark-index c.loop-mark-test.false)
    ∙ c.loop-mark.invariant.0
