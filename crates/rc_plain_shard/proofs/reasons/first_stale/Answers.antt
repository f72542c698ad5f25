use Rattle.std.proofs.Common.{refl, sym}
use Rattle.rc_body.specs.Entries.{entry_seen}
use Rattle.rc_body.specs.declared.entry.Entry.{Entry}
use Rattle.rc_protocol.specs.Shard.{stale}
use Rattle.rc_plain_shard.proofs.Rest.{reason_here, reason_later}
use Rattle.rc_plain_shard.proofs.reasons.first_stale.Goals as goal

pub returns-in-Some : goal.returns-in-Some
returns-in-Some c =
    let e : Entry = entry_seen c.entry-entry.result in
    reason_here (stale c.args.rows.now) c.args.part.now c.loop-index.index e c.in-Some.reason c.entry-entry.ensures c.loop-index.invariant
    (sym (c.in-Some.ensures e refl refl))

pub loop-index-preserved : goal.loop-index-preserved
loop-index-preserved c =
    let e : Entry = entry_seen c.entry-entry.result in
    reason_later (stale c.args.rows.now) c.args.part.now c.loop-index.index e c.entry-entry.ensures c.loop-index.invariant
    (sym (c.in_default.ensures e refl refl))
