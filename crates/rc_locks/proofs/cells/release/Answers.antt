use Rattle.std.proofs.Common.{◌∙◌, arith}
use Rattle.rc_ids.specs.Texts.{same_key}
use Rattle.rc_body.specs.Entries.{entry_seen}
use Rattle.rc_body.specs.declared.entry.Entry.{Entry}
use Rattle.rc_locks.specs.Cells.{writers_at, readers_at}
use Rattle.rc_locks.proofs.CellFacts.{leaves_on, leaves_done}
use Rattle.rc_locks.proofs.cells.release.Goals as goal

pub loop-index-preserved : goal.loop-index-preserved
loop-index-preserved c =
    let e : Entry = entry_seen c.entry-entry.result in (
      λ k. leaves_on c.args.tx (λ (f : Entry). same_key f.key k) c.args.part.now c.loop-index.index e (writers_at c.loop-index.cells.entries k) (writers_at c.drop_idle.new.cells.entries k)
          (writers_at c.args.cells.now.entries k) c.entry-entry.ensures (c.drop_idle.ensures.writers k ∙ c.leave_at.ensures.writers k) (c.loop-index.invariant.0 k),
      λ k. leaves_on c.args.tx (λ (f : Entry). same_key f.key k) c.args.part.now c.loop-index.index e (readers_at c.loop-index.cells.entries k) (readers_at c.drop_idle.new.cells.entries k)
          (readers_at c.args.cells.now.entries k) c.entry-entry.ensures (c.drop_idle.ensures.readers k ∙ c.leave_at.ensures.readers k) (c.loop-index.invariant.1 k),
    )

pub returns-clause-writers : goal.returns-clause-writers
returns-clause-writers c k =
    leaves_done c.args.tx (λ (f : Entry). same_key f.key k) c.args.part.now c.loop-index.index (writers_at c.loop-index.cells.entries k) (writers_at c.args.cells.now.entries k)
    (let le = c.loop-index-test.false in let count = c.len-index-end.ensures.count in omega arith) (c.loop-index.invariant.0 k)

pub returns-clause-readers : goal.returns-clause-readers
returns-clause-readers c k =
    leaves_done c.args.tx (λ (f : Entry). same_key f.key k) c.args.part.now c.loop-index.index (readers_at c.loop-index.cells.entries k) (readers_at c.args.cells.now.entries k)
    (let le = c.loop-index-test.false in let count = c.len-index-end.ensures.count in omega arith) (c.loop-index.invariant.1 k)
