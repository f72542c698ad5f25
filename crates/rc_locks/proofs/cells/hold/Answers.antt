use Rattle.std.proofs.Common.{◌&&◌, ℕ, List, if◌then◌else◌, is_some, sym, ap, ◌∙◌, arith}
use Rattle.std.specs.Ordering.{nat_cmp}
use Rattle.rc_ids.specs.Tables.{added}
use Rattle.rc_ids.specs.Texts.{same_key}
use Rattle.rc_body.specs.Entries.{entry_seen}
use Rattle.rc_body.specs.declared.entry.Entry.{Entry}
use Rattle.rc_locks.specs.Cells.{writers_at, readers_at}
use Rattle.rc_locks.proofs.TakeFacts.{copied_some}
use Rattle.rc_locks.proofs.CellFacts.{joins_on, joins_done, has_at}
use Rattle.rc_locks.proofs.cells.hold.Goals as goal

pub join_at-requires : goal.join_at-requires
join_at-requires c =
    let e : Entry = entry_seen c.entry-entry.result in
    c.loop-index.invariant.0 e.key (has_at c.args.part.now c.loop-index.index e c.entry-entry.ensures)

pub loop-index-preserved : goal.loop-index-preserved
loop-index-preserved c =
    let e : Entry = entry_seen c.entry-entry.result in
    let t = c.args.tx in
    let written = sym c.is_some.ensures in (
      λ k has. c.join_at.ensures.rooms k (c.loop-index.invariant.0 k has),
      λ k. let old : List ℕ = writers_at c.loop-index.cells.entries k in
          joins_on t (λ (f : Entry). same_key f.key k && is_some f.write) c.args.part.now c.loop-index.index e old (writers_at c.join_at.new.cells.entries k)
          (writers_at c.args.cells.now.entries k) c.entry-entry.ensures
          (c.join_at.ensures.writers k ∙ ap (λ b. if same_key e.key k && b then added nat_cmp old t else old) (sym (copied_some c.entry-entry.result.write ∙ written)))
          (c.loop-index.invariant.1 k),
      λ k. joins_on t (λ (f : Entry). same_key f.key k) c.args.part.now c.loop-index.index e (readers_at c.loop-index.cells.entries k) (readers_at c.join_at.new.cells.entries k)
          (readers_at c.args.cells.now.entries k) c.entry-entry.ensures (c.join_at.ensures.readers k) (c.loop-index.invariant.2 k),
    )

pub returns-clause-writers : goal.returns-clause-writers
returns-clause-writers c k =
    joins_done c.args.tx (λ (f : Entry). same_key f.key k && is_some f.write) c.args.part.now c.loop-index.index (writers_at c.loop-index.cells.entries k) (writers_at c.args.cells.now.entries k)
    (let le = c.loop-index-test.false in let count = c.len-index-end.ensures.count in omega arith) (c.loop-index.invariant.1 k)

pub returns-clause-readers : goal.returns-clause-readers
returns-clause-readers c k =
    joins_done c.args.tx (λ (f : Entry). same_key f.key k) c.args.part.now c.loop-index.index (readers_at c.loop-index.cells.entries k) (readers_at c.args.cells.now.entries k)
    (let le = c.loop-index-test.false in let count = c.len-index-end.ensures.count in omega arith) (c.loop-index.invariant.2 k)
