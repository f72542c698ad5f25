use Rattle.std.proofs.Common.{◌≡◌, drop}
use Rattle.toml.specs.View.{items_view}
use Rattle.rc_config.specs.Workload.{each, operation_at}
use Rattle.rc_config.proofs.EachItem.{with_front}
use Rattle.rc_config.proofs.arrays.each_operation.Given as goal

abbrev pub invariant-loop-item : goal.invariant-loop-item
invariant-loop-item l = with_front l.operations.items (each operation_at (items_view (drop l.item-index l.items))) ≡ each operation_at (items_view l.items)
