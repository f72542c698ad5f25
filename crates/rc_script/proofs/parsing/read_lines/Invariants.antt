use Rattle.std.proofs.Common.{◌≡◌, ◌+◌, length, None}
use Rattle.std.specs.Str.Lines.{lines}
use Rattle.rc_script.specs.Reading.{with_front, read_lines}
use Rattle.rc_script.proofs.parsing.read_lines.Given as goal

abbrev pub invariant-loop-rest : goal.invariant-loop-rest
invariant-loop-rest l = record {
  same : with_front l.commands.items (read_lines l.before l.number (lines l.rest)) ≡ read_lines None 1 (lines l.bytes);
  counted : l.number + length (lines l.rest) ≡ length (lines l.bytes) + 1;
}

abbrev pub decreases-loop-rest : goal.decreases-loop-rest
decreases-loop-rest l = length l.rest
