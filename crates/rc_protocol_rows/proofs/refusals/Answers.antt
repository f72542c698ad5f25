use Rattle.rc_protocol_rows.proofs.RefusalRuns.{run-not_sent, run-not_pending, run-begun_twice, run-not_open, run-two_datacentres, run-split_missing, run-cut_short, run-weight_of_nothing, run-weights_missing}
use Rattle.rc_protocol_rows.proofs.refusals.Goals as goal

pub returns : goal.returns
returns c = record { not_sent = run-not_sent; not_pending = run-not_pending; begun_twice = run-begun_twice; not_open = run-not_open; two_datacentres = run-two_datacentres; split_missing = run-split_missing; cut_short = run-cut_short; weight_of_nothing = run-weight_of_nothing; weights_missing = run-weights_missing }
