use Rattle.std.proofs.Common.{◌≡◌, take}
use Rattle.rc_runs.specs.Text as text
use Rattle.rc_player.proofs.cluster.split_keys.Given as goal

abbrev pub invariant-loop-line : goal.invariant-loop-line
invariant-loop-line l = l.keys.items ≡ text.split_keys (take l.line-index l.later)
