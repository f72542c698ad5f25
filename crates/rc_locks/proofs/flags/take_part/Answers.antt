use Rattle.std.proofs.Common.{◌≡◌, ◌&&◌, ℕ, List, is_some, sym, subst, ◌∙◌, arith}
use Rattle.rc_ids.specs.Tables.{found}
use Rattle.rc_protocol.specs.Shard.{Mark, mark_cmp}
use Rattle.rc_locks.specs.Flags.{IsTurned, turned_where, is_other_at, taken_away}
use Rattle.rc_body.specs.Entries.{entry_seen}
use Rattle.rc_body.specs.declared.entry.Entry.{Entry}
use Rattle.rc_locks.proofs.FlagFacts.{txs_stay}
use Rattle.rc_locks.proofs.TakeFacts.{part_on, part_done, copied_some}
use Rattle.rc_locks.proofs.flags.take_part.Goals as goal

pub loop-index-preserved : goal.loop-index-preserved
loop-index-preserved c =
    let e : Entry = entry_seen c.entry-entry.result in
    let turned : IsTurned (λ (m : Mark). turned_where (c.is_some.result && is_other_at e.key c.args.taker m) taken_away) c.loop-index.locks.entries c.take_written.new.locks.entries =
    subst (λ (k : List ℕ). IsTurned (λ (m : Mark). turned_where (c.is_some.result && is_other_at k c.args.taker m) taken_away) c.loop-index.locks.entries c.take_written.new.locks.entries)
    c.new-key.ensures c.take_written.ensures.turned in (
      c.take_written.ensures.rises,
      txs_stay _ c.loop-index.locks.entries c.take_written.new.locks.entries turned c.loop-index.invariant.1,
      λ m. part_on c.args.taker m c.args.part.now c.loop-index.index e (found mark_cmp c.loop-index.locks.entries m) (found mark_cmp c.take_written.new.locks.entries m)
          (found mark_cmp c.args.locks.now.entries m) c.is_some.result c.entry-entry.ensures (copied_some c.entry-entry.result.write ∙ sym c.is_some.ensures)
          (turned m) (c.loop-index.invariant.2 m),
    )

pub returns-clause-turned : goal.returns-clause-turned
returns-clause-turned c m =
    part_done c.args.taker m c.args.part.now c.loop-index.index (found mark_cmp c.loop-index.locks.entries m) (found mark_cmp c.args.locks.now.entries m)
    (let ended = c.loop-index-test.false in let count = c.len-index-end.ensures.count in omega arith) (c.loop-index.invariant.2 m)
