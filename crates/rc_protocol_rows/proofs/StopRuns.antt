-- What the definitions compute to.
use Rattle.std.proofs.Common.{refl}
use Rattle.std.specs.Fmt.{digits}
use Rattle.rc_script.specs.Reading.{script_of, read_lines, line_of}
use Rattle.rc_script.specs.Commands.{command_of}
use Rattle.rc_runs.specs.Text.{plays, plays_script}
use Rattle.rc_runs.specs.Script.{steps, settles}
use Rattle.rc_protocol_rows.specs.Cases.{RunGives}
use Rattle.rc_protocol_rows.specs.Stops.{all_stop, beside_a_minority, alone, down}

pub run-all_stop : RunGives all_stop
unfolding digits script_of read_lines line_of command_of plays plays_script steps settles
run-all_stop = (refl, refl)

pub run-beside_a_minority : RunGives beside_a_minority
unfolding digits script_of read_lines line_of command_of plays plays_script steps settles
run-beside_a_minority = (refl, refl)

pub run-alone : RunGives alone
unfolding digits script_of read_lines line_of command_of plays plays_script steps settles
run-alone = (refl, refl)

pub run-down : RunGives down
unfolding digits script_of read_lines line_of command_of plays plays_script steps settles
run-down = (refl, refl)
