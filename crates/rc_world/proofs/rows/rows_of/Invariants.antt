use Rattle.std.proofs.Common.{◌≡◌, ◌++◌}
use Rattle.rc_world.specs.Shown.{RowsRise}
use Rattle.rc_world.proofs.rows.rows_of.Given as goal

abbrev pub invariant-loop-key : goal.invariant-loop-key
invariant-loop-key g l = RowsRise l.shard.durable.rows → l.rows.entries ++ l.key-iterator ≡ l.shard.durable.rows
