use Rattle.std.proofs.Common.{ap, ◌∙◌, arith}
use Rattle.rc_ids.specs.Texts.{same_key}
use Rattle.rc_body.specs.Bodies.{has_key}
use Rattle.rc_body.specs.Entries.{entry_seen}
use Rattle.rc_body.specs.declared.entry.Entry.{Entry}
use Rattle.rc_locks.specs.Cells.{cell_at, HasRooms}
use Rattle.rc_locks.proofs.Rest.{rest_end}
use Rattle.rc_locks.proofs.CellFacts.{either_way, lacks_next}
use Rattle.rc_locks.proofs.cells.make_room.Goals as goal

pub loop-index-preserved : goal.loop-index-preserved
loop-index-preserved c =
    let e : Entry = entry_seen c.entry-entry.result in (
      λ k. c.widen_at.ensures.writers k ∙ c.loop-index.invariant.0 k,
      λ k. c.widen_at.ensures.readers k ∙ c.loop-index.invariant.1 k,
      λ k t has rest. either_way (HasRooms t (cell_at c.widen_at.new.cells.entries k)) (same_key e.key k)
          (λ same. c.in_ok-widen_at.ensures.room k t same)
          (λ other. c.in_ok-widen_at.ensures.kept k t
          (c.loop-index.invariant.2 k t has (lacks_next c.args.part.now c.loop-index.index e k c.entry-entry.ensures rest other))),
    )

pub returns-clause-room : goal.returns-clause-room
returns-clause-room c t k has =
    c.loop-index.invariant.2 k t has
    (ap (has_key k) (rest_end c.args.part.now c.loop-index.index (let le = c.loop-index-test.false in let count = c.len-index-end.ensures.count in omega arith)))
