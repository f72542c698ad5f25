-- What the definitions compute to.
use Rattle.std.proofs.Common.{refl}
use Rattle.std.specs.Fmt.{digits}
use Rattle.rc_script.specs.Reading.{script_of, read_lines, line_of}
use Rattle.rc_script.specs.Commands.{command_of}
use Rattle.rc_runs.specs.Text.{plays, plays_script}
use Rattle.rc_runs.specs.Script.{steps, settles}
use Rattle.rc_protocol_rows.specs.Cases.{RunGives}
use Rattle.rc_protocol_rows.specs.TakeOvers.{finished_by_another, taken_twice, outbid, repeats}

pub run-finished_by_another : RunGives finished_by_another
unfolding digits script_of read_lines line_of command_of plays plays_script steps settles
run-finished_by_another = (refl, refl)

pub run-taken_twice : RunGives taken_twice
unfolding digits script_of read_lines line_of command_of plays plays_script steps settles
run-taken_twice = (refl, refl)

pub run-outbid : RunGives outbid
unfolding digits script_of read_lines line_of command_of plays plays_script steps settles
run-outbid = (refl, refl)

pub run-repeats : RunGives repeats
unfolding digits script_of read_lines line_of command_of plays plays_script steps settles
run-repeats = (refl, refl)
