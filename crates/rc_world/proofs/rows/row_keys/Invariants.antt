use Rattle.std.proofs.Common.{◌≡◌, ◌++◌}
use Rattle.rc_world.specs.Shown.{keys_in}
use Rattle.rc_world.proofs.rows.row_keys.Given as goal

abbrev pub invariant-loop-key : goal.invariant-loop-key
invariant-loop-key l = l.keys.keys ++ keys_in l.key-iterator ≡ keys_in l.rows.entries
