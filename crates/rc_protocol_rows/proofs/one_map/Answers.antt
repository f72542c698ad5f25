use Rattle.rc_protocol_rows.proofs.OneMap.{map-write_then_read, map-no_key, map-own_write}
use Rattle.rc_protocol_rows.proofs.one_map.Goals as goal

pub returns : goal.returns
returns c = record { write_then_read = map-write_then_read; no_key = map-no_key; own_write = map-own_write }
