use Rattle.rc_protocol_rows.proofs.TakeOverRuns.{run-finished_by_another, run-taken_twice, run-outbid, run-repeats}
use Rattle.rc_protocol_rows.proofs.take_overs.Goals as goal

pub returns : goal.returns
returns c = record { finished_by_another = run-finished_by_another; taken_twice = run-taken_twice; outbid = run-outbid; repeats = run-repeats }
