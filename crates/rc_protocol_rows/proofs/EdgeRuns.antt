-- What the definitions compute to.
use Rattle.std.proofs.Common.{refl}
use Rattle.std.specs.Fmt.{digits}
use Rattle.rc_script.specs.Reading.{script_of, read_lines, line_of}
use Rattle.rc_script.specs.Commands.{command_of}
use Rattle.rc_fields.specs.Formats.{nothing_at, both_at, mapped_at, tested_at, tagged_at, pick, none_at, option_at, many_at, list_at}
use Rattle.rc_fields.specs.Names.{byte_at, place_at, long_at, tx_at, ballot_at, version_at, dc_at, shard_at, short_at, text_at, key_at, value_at, node_at}
use Rattle.rc_body.specs.Reading.{held_at, entry_at, body_at, decision_at, page_at}
use Rattle.rc_record.specs.Reading.{then_at, front_at, lists_at, head_at, prepared_at, full_page_at, promised_at, accepted_at, head_record_at, finished_at, decided_at, record_at, decoded}
use Rattle.rc_log.specs.Records.{records_from}
use Rattle.rc_runs.specs.Text.{plays, plays_script, trace}
use Rattle.rc_claims.specs.CalmScripts.{names_rightly_from}
use Rattle.rc_runs.specs.Script.{steps, settles}
use Rattle.rc_protocol_rows.specs.Cases.{RunGivesAt}
use Rattle.rc_protocol_rows.specs.Stored.{runs_on, over}
use Rattle.rc_protocol_rows.specs.Edges.{NobodyOutside, ClientsKeepTheirOwn, ReportsGo, WornOutIsNoEvent, ReadsAreNotNamed, reading, begun_again, OrdersDiffer, LogsAreNamed, TextIsTraced, CallsAreCounted, SummaryIs, NamesAreTested}

pub outside : NobodyOutside
outside = record { coord = refl; shard = refl }

pub own : ClientsKeepTheirOwn
own = record { ignored = refl; refused = refl }

pub reports : ReportsGo
reports = refl

pub worn-out : WornOutIsNoEvent
unfolding digits script_of read_lines line_of command_of plays plays_script steps settles runs_on records_from trace
    nothing_at both_at mapped_at tested_at tagged_at pick none_at option_at many_at list_at byte_at place_at long_at tx_at ballot_at version_at dc_at shard_at short_at text_at key_at value_at node_at
    held_at entry_at body_at decision_at page_at then_at front_at lists_at head_at prepared_at full_page_at promised_at accepted_at head_record_at finished_at decided_at record_at decoded names_rightly_from
worn-out = refl

pub unnamed : ReadsAreNotNamed
unfolding digits script_of read_lines line_of command_of plays plays_script steps settles runs_on records_from trace
    nothing_at both_at mapped_at tested_at tagged_at pick none_at option_at many_at list_at byte_at place_at long_at tx_at ballot_at version_at dc_at shard_at short_at text_at key_at value_at node_at
    held_at entry_at body_at decision_at page_at then_at front_at lists_at head_at prepared_at full_page_at promised_at accepted_at head_record_at finished_at decided_at record_at decoded names_rightly_from
unnamed = record { unnamed = refl; fresh = refl }

pub again : RunGivesAt (over reading) begun_again
unfolding digits script_of read_lines line_of command_of plays plays_script steps settles runs_on records_from trace
    nothing_at both_at mapped_at tested_at tagged_at pick none_at option_at many_at list_at byte_at place_at long_at tx_at ballot_at version_at dc_at shard_at short_at text_at key_at value_at node_at
    held_at entry_at body_at decision_at page_at then_at front_at lists_at head_at prepared_at full_page_at promised_at accepted_at head_record_at finished_at decided_at record_at decoded names_rightly_from
again = (refl, refl)

pub orders : OrdersDiffer
orders = record { once = λ h. h.0; new = λ h. h.0 }

pub logs : LogsAreNamed
unfolding digits script_of read_lines line_of command_of plays plays_script steps settles runs_on records_from trace
    nothing_at both_at mapped_at tested_at tagged_at pick none_at option_at many_at list_at byte_at place_at long_at tx_at ballot_at version_at dc_at shard_at short_at text_at key_at value_at node_at
    held_at entry_at body_at decision_at page_at then_at front_at lists_at head_at prepared_at full_page_at promised_at accepted_at head_record_at finished_at decided_at record_at decoded names_rightly_from
logs = refl

pub traced : TextIsTraced
unfolding digits script_of read_lines line_of command_of plays plays_script steps settles runs_on records_from trace
    nothing_at both_at mapped_at tested_at tagged_at pick none_at option_at many_at list_at byte_at place_at long_at tx_at ballot_at version_at dc_at shard_at short_at text_at key_at value_at node_at
    held_at entry_at body_at decision_at page_at then_at front_at lists_at head_at prepared_at full_page_at promised_at accepted_at head_record_at finished_at decided_at record_at decoded names_rightly_from
traced = refl

pub counted : CallsAreCounted
counted = refl

pub sums : SummaryIs
unfolding digits script_of read_lines line_of command_of plays plays_script steps settles runs_on records_from trace
    nothing_at both_at mapped_at tested_at tagged_at pick none_at option_at many_at list_at byte_at place_at long_at tx_at ballot_at version_at dc_at shard_at short_at text_at key_at value_at node_at
    held_at entry_at body_at decision_at page_at then_at front_at lists_at head_at prepared_at full_page_at promised_at accepted_at head_record_at finished_at decided_at record_at decoded names_rightly_from
sums = refl

pub names : NamesAreTested
unfolding digits script_of read_lines line_of command_of plays plays_script steps settles runs_on records_from trace
    nothing_at both_at mapped_at tested_at tagged_at pick none_at option_at many_at list_at byte_at place_at long_at tx_at ballot_at version_at dc_at shard_at short_at text_at key_at value_at node_at
    held_at entry_at body_at decision_at page_at then_at front_at lists_at head_at prepared_at full_page_at promised_at accepted_at head_record_at finished_at decided_at record_at decoded names_rightly_from
names = refl
