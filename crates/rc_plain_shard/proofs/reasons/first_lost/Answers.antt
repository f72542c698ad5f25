use Rattle.std.proofs.Common.{refl, sym}
use Rattle.rc_body.specs.Entries.{entry_seen}
use Rattle.rc_body.specs.declared.entry.Entry.{Entry}
use Rattle.rc_protocol.specs.Shard.{lost_by}
use Rattle.rc_plain_shard.proofs.Rest.{reason_here, reason_later}
use Rattle.rc_plain_shard.proofs.reasons.first_lost.Goals as goal

pub returns-in-Some : goal.returns-in-Some
returns-in-Some c =
    let e : Entry = entry_seen c.entry-entry.result in
    reason_here (lost_by c.args.lost.now c.args.tx) c.args.part.now c.loop-index.index e c.in-Some.reason c.entry-entry.ensures c.loop-index.invariant
    (sym (c.in-Some.ensures e refl))

pub loop-index-preserved : goal.loop-index-preserved
loop-index-preserved c =
    let e : Entry = entry_seen c.entry-entry.result in
    reason_later (lost_by c.args.lost.now c.args.tx) c.args.part.now c.loop-index.index e c.entry-entry.ensures c.loop-index.invariant
    (sym (c.in_default.ensures e refl))
