use Rattle.rc_protocol_rows.proofs.CalmRuns.{run-empty, run-no_transaction, run-write_then_read, run-no_key, run-own_write, run-deletion, run-heavy_datacentre}
use Rattle.rc_protocol_rows.proofs.calm_scripts.Goals as goal

pub returns : goal.returns
returns c = record { empty = run-empty; no_transaction = run-no_transaction; write_then_read = run-write_then_read; no_key = run-no_key; own_write = run-own_write; deletion = run-deletion; heavy_datacentre = run-heavy_datacentre }
