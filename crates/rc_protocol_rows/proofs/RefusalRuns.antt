-- What the definitions compute to.
use Rattle.std.proofs.Common.{refl}
use Rattle.std.specs.Fmt.{digits}
use Rattle.rc_script.specs.Reading.{script_of, read_lines, line_of}
use Rattle.rc_script.specs.Commands.{command_of}
use Rattle.rc_runs.specs.Text.{plays, plays_script}
use Rattle.rc_runs.specs.Script.{steps, settles}
use Rattle.rc_protocol_rows.specs.Cases.{RunGives}
use Rattle.rc_protocol_rows.specs.Refusals.{not_sent, not_pending, begun_twice, not_open, two_datacentres, split_missing, cut_short, weight_of_nothing, weights_missing}

pub run-not_sent : RunGives not_sent
unfolding digits script_of read_lines line_of command_of plays plays_script steps settles
run-not_sent = (refl, refl)

pub run-not_pending : RunGives not_pending
unfolding digits script_of read_lines line_of command_of plays plays_script steps settles
run-not_pending = (refl, refl)

pub run-begun_twice : RunGives begun_twice
unfolding digits script_of read_lines line_of command_of plays plays_script steps settles
run-begun_twice = (refl, refl)

pub run-not_open : RunGives not_open
unfolding digits script_of read_lines line_of command_of plays plays_script steps settles
run-not_open = (refl, refl)

pub run-two_datacentres : RunGives two_datacentres
unfolding digits script_of read_lines line_of command_of plays plays_script steps settles
run-two_datacentres = (refl, refl)

pub run-split_missing : RunGives split_missing
unfolding digits script_of read_lines line_of command_of plays plays_script steps settles
run-split_missing = (refl, refl)

pub run-cut_short : RunGives cut_short
unfolding digits script_of read_lines line_of command_of plays plays_script steps settles
run-cut_short = (refl, refl)

pub run-weight_of_nothing : RunGives weight_of_nothing
unfolding digits script_of read_lines line_of command_of plays plays_script steps settles
run-weight_of_nothing = (refl, refl)

pub run-weights_missing : RunGives weights_missing
unfolding digits script_of read_lines line_of command_of plays plays_script steps settles
run-weights_missing = (refl, refl)
