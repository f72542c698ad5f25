-- What the definitions compute to.
use Rattle.std.proofs.Common.{refl}
use Rattle.std.specs.Prelude.{[], ◌∷◌, codes}
use Rattle.rc_ids.specs.declared.names.NodeId.TheVariants.{Coord, Shard}
use Rattle.std.specs.Fmt.{digits}
use Rattle.rc_script.specs.Reading.{script_of, read_lines, line_of}
use Rattle.rc_script.specs.Commands.{command_of}
use Rattle.rc_runs.specs.Text.{plays, plays_script}
use Rattle.rc_runs.specs.Script.{steps, settles}
use Rattle.rc_protocol_rows.specs.FailingCalls.{failing_at, CreationGives, AppendGives, shard_stops, coord_stops_voting, coord_stops_learning, coord_stops_learned, not_opened}
use Rattle.rc_protocol_rows.specs.Cases.{RunGivesAt}

pub create-coord : CreationGives (Coord 1) (codes "d1")
unfolding digits script_of read_lines line_of command_of plays plays_script steps settles
create-coord = record { first = (refl, refl); second = (refl, refl); third = (refl, refl); fourth = (refl, refl); fifth = (refl, refl); sixth = (refl, refl) }

pub create-shard : CreationGives (Shard 1 1) (codes "d1.s1")
unfolding digits script_of read_lines line_of command_of plays plays_script steps settles
create-shard = record { first = (refl, refl); second = (refl, refl); third = (refl, refl); fourth = (refl, refl); fifth = (refl, refl); sixth = (refl, refl) }

pub append-shard : AppendGives (Shard 1 1) 7 8 9 10 shard_stops
unfolding digits script_of read_lines line_of command_of plays plays_script steps settles
append-shard = record { first = (refl, refl); second = (refl, refl); third = (refl, refl); fourth = (refl, refl) }

pub append-vote : AppendGives (Coord 1) 7 8 9 10 coord_stops_voting
unfolding digits script_of read_lines line_of command_of plays plays_script steps settles
append-vote = record { first = (refl, refl); second = (refl, refl); third = (refl, refl); fourth = (refl, refl) }

pub learn-11 : RunGivesAt (failing_at (Coord 1) (11 ∷ [])) coord_stops_learning
unfolding digits script_of read_lines line_of command_of plays plays_script steps settles
learn-11 = (refl, refl)

pub learn-12 : RunGivesAt (failing_at (Coord 1) (12 ∷ [])) coord_stops_learning
unfolding digits script_of read_lines line_of command_of plays plays_script steps settles
learn-12 = (refl, refl)

pub learn-13 : RunGivesAt (failing_at (Coord 1) (13 ∷ [])) coord_stops_learning
unfolding digits script_of read_lines line_of command_of plays plays_script steps settles
learn-13 = (refl, refl)

pub learned : RunGivesAt (failing_at (Coord 1) (14 ∷ [])) coord_stops_learned
unfolding digits script_of read_lines line_of command_of plays plays_script steps settles
learned = (refl, refl)

pub unopened : RunGivesAt (failing_at (Coord 1) (10 ∷ 11 ∷ [])) not_opened
unfolding digits script_of read_lines line_of command_of plays plays_script steps settles
unopened = (refl, refl)
