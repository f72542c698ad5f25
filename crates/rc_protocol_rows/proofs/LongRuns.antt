-- What the definitions compute to.
use Rattle.std.proofs.Common.{refl, take, drop}
use Rattle.std.specs.Fmt.{digits}
use Rattle.rc_script.specs.Reading.{script_of, read_lines, line_of}
use Rattle.rc_script.specs.Commands.{command_of}
use Rattle.rc_runs.specs.Text.{plays, plays_script}
use Rattle.rc_runs.specs.Script.{steps, settles}
use Rattle.rc_protocol_rows.specs.Cases.{RunGives}
use Rattle.rc_protocol_rows.specs.Long.{caught_up, outcomes, PagesGo}

pub run-caught_up : RunGives (caught_up 12)
unfolding digits script_of read_lines line_of command_of plays plays_script steps settles
run-caught_up = (refl, refl)

pub pages-go : PagesGo (take 64 outcomes) (drop 64 outcomes)
unfolding digits
pages-go = record { first_page = refl; next_page = refl; no_page = refl; asks_on = refl; asks_no_more = refl; place = refl; again = refl; stays = refl }
