use Rattle.std.proofs.Common.{drop}
use Rattle.rc_serial.specs.Orders.{map_of, order_of}
use Rattle.rc_serial.proofs.Runs.{Runs}
use Rattle.rc_serial.proofs.one_map.explain.Given as goal

abbrev pub invariant-loop-index : goal.invariant-loop-index
invariant-loop-index l = Runs (map_of l.base) (order_of l.order) l.index l.versions (order_of (drop l.index l.order))
