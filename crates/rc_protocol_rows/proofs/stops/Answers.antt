use Rattle.rc_protocol_rows.proofs.StopRuns.{run-all_stop, run-beside_a_minority, run-alone, run-down}
use Rattle.rc_protocol_rows.proofs.stops.Goals as goal

pub returns : goal.returns
returns c = record { all_stop = run-all_stop; beside_a_minority = run-beside_a_minority; alone = run-alone; down = run-down }
