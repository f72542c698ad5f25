use Rattle.std.proofs.Common.{◌≡◌, drop, take}
use Rattle.std.specs.List.{AllByRecursion}
use Rattle.rc_record.specs.Spelling.{HasRecord}
use Rattle.rc_protocol.specs.Nodes.{with_log}
use Rattle.rc_runs.specs.Stored.{records_of}
use Rattle.rc_begin.proofs.named.add_names.Given as goal

abbrev pub invariant-loop-place : goal.invariant-loop-place
invariant-loop-place l = record {
  names : with_log l.named.keys (records_of (drop l.place l.log)) ≡ with_log l.initial.named.keys (records_of l.log);
  has : AllByRecursion HasRecord (records_of (take l.place l.log));
}
