-- What one map gives.
use Rattle.std.proofs.Common.{refl}
use Rattle.std.specs.Fmt.{digits}
use Rattle.rc_script.specs.Reading.{script_of, read_lines, line_of}
use Rattle.rc_script.specs.Commands.{command_of}
use Rattle.rc_claims.specs.Calm.{calm_from, is_calm_from}
use Rattle.rc_protocol_rows.specs.Cases.{OneMapGives, three_dcs}
use Rattle.rc_protocol_rows.specs.Calm.{write_then_read, no_key, own_write}

pub map-write_then_read : OneMapGives three_dcs write_then_read
unfolding digits script_of read_lines line_of command_of calm_from is_calm_from
map-write_then_read = refl

pub map-no_key : OneMapGives three_dcs no_key
unfolding digits script_of read_lines line_of command_of calm_from is_calm_from
map-no_key = refl

pub map-own_write : OneMapGives three_dcs own_write
unfolding digits script_of read_lines line_of command_of calm_from is_calm_from
map-own_write = refl
