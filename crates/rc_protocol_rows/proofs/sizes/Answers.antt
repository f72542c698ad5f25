use Rattle.rc_protocol_rows.proofs.SizeRuns.{run-longest_key, run-longer_key, run-longest_value, run-longer_value, run-keys_in_excess, begins-end}
use Rattle.rc_protocol_rows.proofs.sizes.Goals as goal

pub returns : goal.returns
returns c = record { longest_key = run-longest_key; longer_key = run-longer_key; longest_value = run-longest_value; longer_value = run-longer_value; keys_in_excess = run-keys_in_excess; transactions = begins-end }
