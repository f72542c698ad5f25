use Rattle.std.proofs.Common.{◌≡◌, ◌≤◌, length}
use Rattle.rc_record.specs.InOrder.{filed}
use Rattle.rc_shard.proofs.applying.end_all.Given as goal

abbrev pub invariant-loop-tx : goal.invariant-loop-tx
invariant-loop-tx l = record {
  table : filed l.finished.table l.tx-iterator.rest.items ≡ filed l.fn.finished.table l.fn.outcomes.items;
  room : length l.tx-iterator.rest.items ≤ l.finished.spare;
}
