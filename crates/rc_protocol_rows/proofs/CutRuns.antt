-- What the definitions compute to.
use Rattle.std.proofs.Common.{refl}
use Rattle.std.specs.Fmt.{digits}
use Rattle.rc_script.specs.Reading.{script_of, read_lines, line_of}
use Rattle.rc_script.specs.Commands.{command_of}
use Rattle.rc_runs.specs.Text.{plays, plays_script}
use Rattle.rc_runs.specs.Script.{steps, settles}
use Rattle.rc_protocol_rows.specs.Cuts.{CutGives}

pub cut-1 : CutGives 1
unfolding digits script_of read_lines line_of command_of plays plays_script steps settles
cut-1 = record { synced = (refl, refl); written = (refl, refl); full = (refl, refl); ones = (refl, refl) }

pub cut-2 : CutGives 2
unfolding digits script_of read_lines line_of command_of plays plays_script steps settles
cut-2 = record { synced = (refl, refl); written = (refl, refl); full = (refl, refl); ones = (refl, refl) }

pub cut-3 : CutGives 3
unfolding digits script_of read_lines line_of command_of plays plays_script steps settles
cut-3 = record { synced = (refl, refl); written = (refl, refl); full = (refl, refl); ones = (refl, refl) }

pub cut-4 : CutGives 4
unfolding digits script_of read_lines line_of command_of plays plays_script steps settles
cut-4 = record { synced = (refl, refl); written = (refl, refl); full = (refl, refl); ones = (refl, refl) }
