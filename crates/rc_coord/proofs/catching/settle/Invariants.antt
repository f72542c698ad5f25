use Rattle.std.proofs.Common.{◌≡◌, ◌≤◌, length}
use Rattle.rc_ids.specs.Cluster.{Layout}
use Rattle.rc_record.specs.CoordState.{outcomes_joined}
use Rattle.rc_protocol.specs.Coordinator.{forgotten_all}
use Rattle.rc_coord.specs.Rows.{AreNew}
use Rattle.rc_coord.specs.Sites.{volatile_of, Fits}
use Rattle.rc_coord.proofs.catching.settle.Given as goal

abbrev pub invariant-loop-tx : goal.invariant-loop-tx
invariant-loop-tx l = record {
  outcomes : outcomes_joined l.tables.outcomes.entries l.tx-iterator.rest.items ≡ outcomes_joined l.fn.tables.outcomes.entries l.fn.page;
  volatile : forgotten_all (volatile_of l.tables) l.tx-iterator.rest.items ≡ forgotten_all (volatile_of l.fn.tables) l.fn.page;
  acceptor : l.tables.acceptor ≡ l.fn.tables.acceptor;
  new : AreNew l.tables.outcomes.entries l.tx-iterator.rest.items;
  room : length l.tx-iterator.rest.items ≤ l.tables.outcomes.spare;
  fit : (c : Layout) → Fits c l.fn.tables → Fits c l.tables;
}
