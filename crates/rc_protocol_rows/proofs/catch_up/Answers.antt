use Rattle.rc_protocol_rows.proofs.LongRuns.{run-caught_up, pages-go}
use Rattle.rc_protocol_rows.proofs.catch_up.Goals as goal

pub returns : goal.returns
returns c = record { few = run-caught_up; pages = pages-go }
