use Rattle.std.proofs.Common.{◌≡◌, ◌++◌, ◌+◌, ◌≤◌, length, ◌-◌, ◌*◌}
use Rattle.rc_config.specs.Generator.{lines_from, generated_commands}
use Rattle.rc_config.proofs.generator.generate.Given as goal

-- the lines so far and those of the transactions that are left are the script, but for its last line
abbrev pub invariant-loop-tx : goal.invariant-loop-tx
invariant-loop-tx l = (l.lines ++ lines_from (l.size - l.tx) (l.tx + 1) l.draws ≡ generated_commands l.number l.size) × (length l.lines ≤ 2 + 6 * l.tx)
