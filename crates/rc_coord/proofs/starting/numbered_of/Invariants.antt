use Rattle.std.proofs.Common.{◌≡◌, ◌≤◌, [], length}
use Rattle.rc_record.specs.InOrder.{filed}
use Rattle.rc_coord.proofs.starting.numbered_of.Given as goal

abbrev pub invariant-loop-tx : goal.invariant-loop-tx
invariant-loop-tx g l = record {
  table : filed l.numbered.table l.tx-iterator ≡ filed [] l.fn.map.entries;
  room : length l.tx-iterator ≤ l.numbered.spare;
}
