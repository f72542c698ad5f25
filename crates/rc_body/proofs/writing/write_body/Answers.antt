use Rattle.std.proofs.Common.{length}
use Rattle.rc_fields.specs.Spelling.{u8_bytes}
use Rattle.rc_body.specs.Spelling.{entry_bytes}
use Rattle.rc_body.proofs.Written.{one_more_written}
use Rattle.rc_body.proofs.writing.write_body.Goals as goal

pub loop-index-preserved : goal.loop-index-preserved
loop-index-preserved c =
    one_more_written entry_bytes c.args.v.now c.loop-index.index _ c.args.out.now (u8_bytes (length c.args.v.now)) c.loop-index.out c.write_entry.new.out
    c.entry-entry.ensures c.loop-index.invariant c.in_ok-write_entry.ensures.ok
