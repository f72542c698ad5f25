-- What the definitions compute to.
use Rattle.std.proofs.Common.{refl}
use Rattle.std.specs.Fmt.{digits}
use Rattle.rc_script.specs.Reading.{script_of, read_lines, line_of}
use Rattle.rc_script.specs.Commands.{command_of}
use Rattle.rc_runs.specs.Text.{plays, plays_script}
use Rattle.rc_runs.specs.Script.{steps, settles}
use Rattle.rc_protocol_rows.specs.Cases.{RunGives}
use Rattle.rc_protocol_rows.specs.Calm.{empty, no_transaction, write_then_read, no_key, own_write, deletion, heavy_datacentre}

pub run-empty : RunGives empty
unfolding digits script_of read_lines line_of command_of plays plays_script steps settles
run-empty = (refl, refl)

pub run-no_transaction : RunGives no_transaction
unfolding digits script_of read_lines line_of command_of plays plays_script steps settles
run-no_transaction = (refl, refl)

pub run-write_then_read : RunGives write_then_read
unfolding digits script_of read_lines line_of command_of plays plays_script steps settles
run-write_then_read = (refl, refl)

pub run-no_key : RunGives no_key
unfolding digits script_of read_lines line_of command_of plays plays_script steps settles
run-no_key = (refl, refl)

pub run-own_write : RunGives own_write
unfolding digits script_of read_lines line_of command_of plays plays_script steps settles
run-own_write = (refl, refl)

pub run-deletion : RunGives deletion
unfolding digits script_of read_lines line_of command_of plays plays_script steps settles
run-deletion = (refl, refl)

pub run-heavy_datacentre : RunGives heavy_datacentre
unfolding digits script_of read_lines line_of command_of plays plays_script steps settles
run-heavy_datacentre = (refl, refl)
