use Rattle.std.proofs.Common.{◌≡◌, map, take}
use Rattle.rc_locks.specs.Runs.{said_by, ran}
use Rattle.rc_locks.proofs.run.run_locks.Given as goal

abbrev pub invariant-loop-call : goal.invariant-loop-call
invariant-loop-call g l = record {
  left : g.L.LockTable.state l.table ≡ (ran (g.L.LockTable.state l.fn.table) (take l.call-index l.calls)).1;
  said : map said_by l.answers.items ≡ (ran (g.L.LockTable.state l.fn.table) (take l.call-index l.calls)).0;
}
