use Rattle.rc_protocol_rows.proofs.StoredRuns.{log-second, log-chosen, log-begun, log-vanished, log-shards, log-weights, log-cut, log-refused, log-ballots, log-format}
use Rattle.rc_protocol_rows.proofs.stored_logs.Goals as goal

pub returns : goal.returns
returns c = record { second = log-second; chosen = log-chosen; begun = log-begun; vanished = log-vanished; shards = log-shards; weights = log-weights; cut = log-cut; refused = log-refused; ballots = log-ballots; format = log-format }
