use Rattle.std.proofs.Common.{refl, sym, rules}
use Rattle.rc_body.specs.Entries.{entry_seen}
use Rattle.rc_body.specs.declared.entry.Entry.{Entry}
use Rattle.rc_protocol.specs.Shard.{locked}
use Rattle.rc_locks.proofs.Rest.{reason_here, reason_later}
use Rattle.rc_locks.proofs.reasons.first_locked.Goals as goal

pub returns-in-Some : goal.returns-in-Some
returns-in-Some c =
    let e : Entry = entry_seen c.entry-entry.result in
    reason_here (locked c.args.parts.now) c.args.part.now c.loop-index.index e c.in-Some.reason c.entry-entry.ensures c.loop-index.invariant
    (sym (c.in-Some.ensures e refl (search rules)))

pub loop-index-preserved : goal.loop-index-preserved
loop-index-preserved c =
    let e : Entry = entry_seen c.entry-entry.result in
    reason_later (locked c.args.parts.now) c.args.part.now c.loop-index.index e c.entry-entry.ensures c.loop-index.invariant
    (sym (c.in_default.ensures e refl (search rules)))
