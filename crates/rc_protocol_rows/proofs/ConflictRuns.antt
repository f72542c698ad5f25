-- What the definitions compute to.
use Rattle.std.proofs.Common.{refl}
use Rattle.std.specs.Fmt.{digits}
use Rattle.rc_script.specs.Reading.{script_of, read_lines, line_of}
use Rattle.rc_script.specs.Commands.{command_of}
use Rattle.rc_runs.specs.Text.{plays, plays_script}
use Rattle.rc_runs.specs.Script.{steps, settles}
use Rattle.rc_protocol_rows.specs.Cases.{RunGives}
use Rattle.rc_protocol_rows.specs.Conflicts.{conflict, ordered_conflict, preemption, prepared_reader, waiting_reads, late_grant, two_versions}

pub run-conflict : RunGives conflict
unfolding digits script_of read_lines line_of command_of plays plays_script steps settles
run-conflict = (refl, refl)

pub run-ordered_conflict : RunGives ordered_conflict
unfolding digits script_of read_lines line_of command_of plays plays_script steps settles
run-ordered_conflict = (refl, refl)

pub run-preemption : RunGives preemption
unfolding digits script_of read_lines line_of command_of plays plays_script steps settles
run-preemption = (refl, refl)

pub run-prepared_reader : RunGives prepared_reader
unfolding digits script_of read_lines line_of command_of plays plays_script steps settles
run-prepared_reader = (refl, refl)

pub run-waiting_reads : RunGives waiting_reads
unfolding digits script_of read_lines line_of command_of plays plays_script steps settles
run-waiting_reads = (refl, refl)

pub run-late_grant : RunGives late_grant
unfolding digits script_of read_lines line_of command_of plays plays_script steps settles
run-late_grant = (refl, refl)

pub run-two_versions : RunGives two_versions
unfolding digits script_of read_lines line_of command_of plays plays_script steps settles
run-two_versions = (refl, refl)
