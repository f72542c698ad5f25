use Rattle.std.proofs.Common.{◌≡◌, drop}
use Rattle.rc_runs.specs.Stored.{records_of}
use Rattle.rc_order.specs.Logs.{with_log}
use Rattle.rc_begin.proofs.orders.count_log.Given as goal

abbrev pub invariant-loop-place : goal.invariant-loop-place
invariant-loop-place l = record {
  votes : with_log l.order.votes l.dc (records_of (drop l.place l.log)) ≡ with_log l.initial.order.votes l.dc (records_of l.log);
  weights : l.order.weights ≡ l.initial.order.weights;
  earlier : l.order.earlier ≡ l.initial.order.earlier;
  listed : l.order.listed ≡ l.initial.order.listed;
}
