use Rattle.std.proofs.Common.{◌-◌, length, sym, ap, ◌∙◌, arith}
use Rattle.rc_record.specs.Replay.{newest_head}
use Rattle.rc_record.proofs.Newest.{newest_here}
use Rattle.rc_record.proofs.replay.newest_head.Goals as goal

pub returns-then-is_some : goal.returns-then-is_some
returns-then-is_some c =
    newest_here c.as_slice-log.result.now (length c.as_slice-log.result.now - 1 - c.loop-behind.behind)
    (length c.as_slice-log.result.now - c.loop-behind.behind) c.index-log-log.result c.in_ok-found.found (omega arith) (omega arith)
    c.index-log-log.is c.loop-behind.invariant c.in_ok-found.ensures (sym c.if-is_some.ensures)
    ∙ ap newest_head c.as_slice-log.ensures
