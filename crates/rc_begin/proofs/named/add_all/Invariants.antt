use Rattle.std.proofs.Common.{◌≡◌, drop, take}
use Rattle.rc_begin.specs.Logs.{names_of, HaveRecords}
use Rattle.rc_begin.proofs.named.add_all.Given as goal

abbrev pub invariant-loop-place : goal.invariant-loop-place
invariant-loop-place l = record {
  names : names_of l.named.keys (drop l.place l.logs) ≡ names_of l.initial.named.keys l.logs;
  has : HaveRecords (take l.place l.logs);
}
