-- What the definitions compute to.
use Rattle.std.proofs.Common.{refl}
use Rattle.std.specs.Fmt.{digits}
use Rattle.rc_script.specs.Reading.{script_of, read_lines, line_of}
use Rattle.rc_script.specs.Commands.{command_of}
use Rattle.rc_runs.specs.Text.{plays, plays_script}
use Rattle.rc_runs.specs.Script.{steps, settles}
use Rattle.rc_protocol_rows.specs.Cases.{RunGives}
use Rattle.rc_protocol_rows.specs.Sizes.{longest_key, longer_key, longest_value, longer_value, keys_in_excess, BeginsEnd}

pub run-longest_key : RunGives longest_key
unfolding digits script_of read_lines line_of command_of plays plays_script steps settles
run-longest_key = (refl, refl)

pub run-longer_key : RunGives longer_key
unfolding digits script_of read_lines line_of command_of plays plays_script steps settles
run-longer_key = (refl, refl)

pub run-longest_value : RunGives longest_value
unfolding digits script_of read_lines line_of command_of plays plays_script steps settles
run-longest_value = (refl, refl)

pub run-longer_value : RunGives longer_value
unfolding digits script_of read_lines line_of command_of plays plays_script steps settles
run-longer_value = (refl, refl)

pub run-keys_in_excess : RunGives keys_in_excess
unfolding digits script_of read_lines line_of command_of plays plays_script steps settles
run-keys_in_excess = (refl, refl)

pub begins-end : BeginsEnd
begins-end = record { last = refl; in_excess = refl }
