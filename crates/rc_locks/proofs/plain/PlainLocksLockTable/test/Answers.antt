use Rattle.std.proofs.Common.{ℕ, List, sym, ap, ◌∙◌}
use Rattle.rc_body.specs.declared.entry.Entry.{Entry}
use Rattle.rc_protocol.specs.Shard.{ShardVolatile, test}
use Rattle.rc_locks.specs.LockSets.{answer_of, beside}
use Rattle.rc_locks.proofs.plain.PlainLocksLockTable.test.Goals as goal

pub returns-in-Some : goal.returns-in-Some
returns-in-Some c =
    let locks = c.args.self.now in
    let v : ShardVolatile = record { plain = locks.plain.items; lost = locks.lost.items; waiting = locks.waiting.items; cursor = 0 } in
    ap answer_of (c.in-Some.ensures v (sym c.deref-2.ensures.value))
    ∙ ap (λ (ps : List (ℕ × List Entry)). answer_of (test (beside ps c.args.at.now.rows) v c.args.tx c.args.part.now)) c.deref.ensures.value

pub returns-in-None : goal.returns-in-None
returns-in-None c =
    let locks = c.args.self.now in
    let v : ShardVolatile = record { plain = locks.plain.items; lost = locks.lost.items; waiting = locks.waiting.items; cursor = 0 } in
    ap answer_of (c.in-None.ensures v (sym c.deref-2.ensures.value))
    ∙ ap (λ (ps : List (ℕ × List Entry)). answer_of (test (beside ps c.args.at.now.rows) v c.args.tx c.args.part.now)) c.deref.ensures.value
