-- What the definitions compute to.
use Rattle.std.proofs.Common.{refl, codes}
use Rattle.std.specs.Fmt.{digits}
use Rattle.rc_script.specs.Reading.{script_of, read_lines, line_of}
use Rattle.rc_script.specs.Commands.{command_of}
use Rattle.rc_fields.specs.Formats.{nothing_at, both_at, mapped_at, tested_at, tagged_at, pick, none_at, option_at, many_at, list_at}
use Rattle.rc_fields.specs.Names.{byte_at, place_at, long_at, tx_at, ballot_at, version_at, dc_at, shard_at, short_at, text_at, key_at, value_at, node_at}
use Rattle.rc_body.specs.Reading.{held_at, entry_at, body_at, decision_at, page_at}
use Rattle.rc_record.specs.Reading.{then_at, front_at, lists_at, head_at, prepared_at, full_page_at, promised_at, accepted_at, head_record_at, finished_at, decided_at, record_at, decoded}
use Rattle.rc_log.specs.Records.{records_from}
use Rattle.rc_runs.specs.Text.{plays, plays_script}
use Rattle.rc_runs.specs.Script.{steps, settles}
use Rattle.rc_protocol_rows.specs.Cases.{RunGivesAt}
use Rattle.rc_protocol_rows.specs.Stored.{runs_on, after_commit, after_votes, second_run, chosen_before, begun_before, vanished_before, other_shards, other_weights, bad_log, cut_log, refused_record, last_ballot, no_ballot, gone_in_first_format}

pub log-second : RunGivesAt after_commit second_run
unfolding digits script_of read_lines line_of command_of plays plays_script steps settles runs_on records_from
    nothing_at both_at mapped_at tested_at tagged_at pick none_at option_at many_at list_at byte_at place_at long_at tx_at ballot_at version_at dc_at shard_at short_at text_at key_at value_at node_at
    held_at entry_at body_at decision_at page_at then_at front_at lists_at head_at prepared_at full_page_at promised_at accepted_at head_record_at finished_at decided_at record_at decoded
log-second = (refl, refl)

pub log-chosen : RunGivesAt after_votes chosen_before
unfolding digits script_of read_lines line_of command_of plays plays_script steps settles runs_on records_from
    nothing_at both_at mapped_at tested_at tagged_at pick none_at option_at many_at list_at byte_at place_at long_at tx_at ballot_at version_at dc_at shard_at short_at text_at key_at value_at node_at
    held_at entry_at body_at decision_at page_at then_at front_at lists_at head_at prepared_at full_page_at promised_at accepted_at head_record_at finished_at decided_at record_at decoded
log-chosen = (refl, refl)

pub log-begun : RunGivesAt after_commit begun_before
unfolding digits script_of read_lines line_of command_of plays plays_script steps settles runs_on records_from
    nothing_at both_at mapped_at tested_at tagged_at pick none_at option_at many_at list_at byte_at place_at long_at tx_at ballot_at version_at dc_at shard_at short_at text_at key_at value_at node_at
    held_at entry_at body_at decision_at page_at then_at front_at lists_at head_at prepared_at full_page_at promised_at accepted_at head_record_at finished_at decided_at record_at decoded
log-begun = (refl, refl)

pub log-vanished : RunGivesAt after_commit vanished_before
unfolding digits script_of read_lines line_of command_of plays plays_script steps settles runs_on records_from
    nothing_at both_at mapped_at tested_at tagged_at pick none_at option_at many_at list_at byte_at place_at long_at tx_at ballot_at version_at dc_at shard_at short_at text_at key_at value_at node_at
    held_at entry_at body_at decision_at page_at then_at front_at lists_at head_at prepared_at full_page_at promised_at accepted_at head_record_at finished_at decided_at record_at decoded
log-vanished = (refl, refl)

pub log-shards : RunGivesAt after_commit other_shards
unfolding digits script_of read_lines line_of command_of plays plays_script steps settles runs_on records_from
    nothing_at both_at mapped_at tested_at tagged_at pick none_at option_at many_at list_at byte_at place_at long_at tx_at ballot_at version_at dc_at shard_at short_at text_at key_at value_at node_at
    held_at entry_at body_at decision_at page_at then_at front_at lists_at head_at prepared_at full_page_at promised_at accepted_at head_record_at finished_at decided_at record_at decoded
log-shards = (refl, refl)

pub log-weights : RunGivesAt after_commit other_weights
unfolding digits script_of read_lines line_of command_of plays plays_script steps settles runs_on records_from
    nothing_at both_at mapped_at tested_at tagged_at pick none_at option_at many_at list_at byte_at place_at long_at tx_at ballot_at version_at dc_at shard_at short_at text_at key_at value_at node_at
    held_at entry_at body_at decision_at page_at then_at front_at lists_at head_at prepared_at full_page_at promised_at accepted_at head_record_at finished_at decided_at record_at decoded
log-weights = (refl, refl)

pub log-cut : RunGivesAt cut_log (bad_log (codes "d1.s1: log damaged at 40"))
unfolding digits script_of read_lines line_of command_of plays plays_script steps settles runs_on records_from
    nothing_at both_at mapped_at tested_at tagged_at pick none_at option_at many_at list_at byte_at place_at long_at tx_at ballot_at version_at dc_at shard_at short_at text_at key_at value_at node_at
    held_at entry_at body_at decision_at page_at then_at front_at lists_at head_at prepared_at full_page_at promised_at accepted_at head_record_at finished_at decided_at record_at decoded
log-cut = (refl, refl)

pub log-refused : RunGivesAt refused_record (bad_log (codes "d2: record 1 refused"))
unfolding digits script_of read_lines line_of command_of plays plays_script steps settles runs_on records_from
    nothing_at both_at mapped_at tested_at tagged_at pick none_at option_at many_at list_at byte_at place_at long_at tx_at ballot_at version_at dc_at shard_at short_at text_at key_at value_at node_at
    held_at entry_at body_at decision_at page_at then_at front_at lists_at head_at prepared_at full_page_at promised_at accepted_at head_record_at finished_at decided_at record_at decoded
log-refused = (refl, refl)

pub log-ballots : RunGivesAt last_ballot no_ballot
unfolding digits script_of read_lines line_of command_of plays plays_script steps settles runs_on records_from
    nothing_at both_at mapped_at tested_at tagged_at pick none_at option_at many_at list_at byte_at place_at long_at tx_at ballot_at version_at dc_at shard_at short_at text_at key_at value_at node_at
    held_at entry_at body_at decision_at page_at then_at front_at lists_at head_at prepared_at full_page_at promised_at accepted_at head_record_at finished_at decided_at record_at decoded
log-ballots = (refl, refl)

pub log-format : RunGivesAt gone_in_first_format (bad_log (codes "d1.s1: record 1 refused"))
unfolding digits script_of read_lines line_of command_of plays plays_script steps settles runs_on records_from
    nothing_at both_at mapped_at tested_at tagged_at pick none_at option_at many_at list_at byte_at place_at long_at tx_at ballot_at version_at dc_at shard_at short_at text_at key_at value_at node_at
    held_at entry_at body_at decision_at page_at then_at front_at lists_at head_at prepared_at full_page_at promised_at accepted_at head_record_at finished_at decided_at record_at decoded
log-format = (refl, refl)
