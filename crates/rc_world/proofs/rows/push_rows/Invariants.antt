use Rattle.std.proofs.Common.{◌≡◌, ◌++◌, map}
use Rattle.rc_world.specs.Shown.{row_of}
use Rattle.rc_world.proofs.rows.push_rows.Given as goal

abbrev pub invariant-loop-key : goal.invariant-loop-key
invariant-loop-key g l = l.lines ≡ l.initial.lines ++ map (row_of l.node l.rows.entries l.shard.durable.parts) l.yielded
