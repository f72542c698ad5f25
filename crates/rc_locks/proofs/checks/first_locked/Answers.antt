use Rattle.std.proofs.Common.{refl, sym, ◌∙◌, arith}
use Rattle.rc_body.specs.Entries.{entry_seen}
use Rattle.rc_body.specs.declared.entry.Entry.{Entry}
use Rattle.rc_protocol.specs.Shard.{locked}
use Rattle.rc_locks.proofs.Rest.{reason_here, reason_later, reason_end}
use Rattle.rc_locks.proofs.TakeFacts.{copied_some}
use Rattle.rc_locks.proofs.checks.first_locked.Goals as goal

pub returns-in-Some : goal.returns-in-Some
returns-in-Some c parts indexed =
    let e : Entry = entry_seen c.entry-entry.result in
    reason_here (locked parts) c.args.part.now c.loop-index.index e c.in-Some.reason c.entry-entry.ensures (c.loop-index.invariant parts indexed)
    (sym (c.in-Some.ensures parts e indexed refl (copied_some c.entry-entry.result.write ∙ sym c.is_some.ensures)))

pub loop-index-preserved : goal.loop-index-preserved
loop-index-preserved c parts indexed =
    let e : Entry = entry_seen c.entry-entry.result in
    reason_later (locked parts) c.args.part.now c.loop-index.index e c.entry-entry.ensures (c.loop-index.invariant parts indexed)
    (sym (c.in_default.ensures parts e indexed refl (copied_some c.entry-entry.result.write ∙ sym c.is_some.ensures)))

pub returns : goal.returns
returns c parts indexed =
    reason_end (locked parts) c.args.part.now c.loop-index.index (let le = c.loop-index-test.false in let count = c.len-index-end.ensures.count in omega arith) (c.loop-index.invariant parts indexed)
