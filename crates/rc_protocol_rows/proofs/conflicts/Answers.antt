use Rattle.rc_protocol_rows.proofs.ConflictRuns.{run-conflict, run-ordered_conflict, run-preemption, run-prepared_reader, run-waiting_reads, run-late_grant, run-two_versions}
use Rattle.rc_protocol_rows.proofs.conflicts.Goals as goal

pub returns : goal.returns
returns c = record { conflict = run-conflict; ordered_conflict = run-ordered_conflict; preemption = run-preemption; prepared_reader = run-prepared_reader; waiting_reads = run-waiting_reads; late_grant = run-late_grant; two_versions = run-two_versions }
