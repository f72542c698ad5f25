use Rattle.std.proofs.Common.{◌≡◌, take}
use Rattle.rc_runs.specs.Session.{text_bytes}
use Rattle.rc_plain_world.proofs.world.text_len.Given as goal

abbrev pub invariant-loop-line : goal.invariant-loop-line
invariant-loop-line l = l.len ≡ text_bytes (take l.line-index l.lines)
