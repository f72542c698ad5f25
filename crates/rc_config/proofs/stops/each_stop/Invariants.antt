use Rattle.std.proofs.Common.{◌≡◌, drop}
use Rattle.toml.specs.View.{items_view}
use Rattle.rc_config.specs.Workload.{each, stop_at}
use Rattle.rc_config.proofs.EachItem.{with_front}
use Rattle.rc_config.proofs.stops.each_stop.Given as goal

abbrev pub invariant-loop-item : goal.invariant-loop-item
invariant-loop-item l = with_front l.stops (each (stop_at l.dcs l.shards) (items_view (drop l.item-index l.items))) ≡ each (stop_at l.dcs l.shards) (items_view l.items)
