use Rattle.std.proofs.Common.{◌≡◌, drop}
use Rattle.toml.specs.View.{items_view}
use Rattle.rc_config.specs.Workload.{each, number_at}
use Rattle.rc_config.proofs.EachItem.{with_front}
use Rattle.rc_config.proofs.arrays.each_weight.Given as goal

abbrev pub invariant-loop-item : goal.invariant-loop-item
invariant-loop-item l = with_front l.weights.items (each (number_at 1 9) (items_view (drop l.item-index l.items))) ≡ each (number_at 1 9) (items_view l.items)
