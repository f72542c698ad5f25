use Rattle.std.proofs.Common.{◌≡◌, ◌+◌, drop}
use Rattle.rc_begin.specs.Logs.{with_blobs}
use Rattle.rc_begin.proofs.orders.count_logs.Given as goal

abbrev pub invariant-loop-place : goal.invariant-loop-place
invariant-loop-place l = record {
  votes : with_blobs l.order.votes (l.place + 1) (drop l.place l.logs) ≡ with_blobs l.initial.order.votes 1 l.logs;
  weights : l.order.weights ≡ l.initial.order.weights;
  earlier : l.order.earlier ≡ l.initial.order.earlier;
  listed : l.order.listed ≡ l.initial.order.listed;
}
