use Rattle.std.proofs.Common.{◌≡◌, drop}
use Rattle.rc_record.specs.CoordState.{new_durable}
use Rattle.rc_protocol.specs.Nodes.{coord_replayed}
use Rattle.rc_plain_coord.proofs.replay.replay.Given as goal

abbrev pub invariant-loop-entry : goal.invariant-loop-entry
invariant-loop-entry l = coord_replayed l.durable (drop l.entry-index l.log) ≡ coord_replayed new_durable l.log
