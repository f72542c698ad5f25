use Rattle.std.proofs.Common.{◌≡◌, take}
use Rattle.rc_player.specs.Written.{line_texts}
use Rattle.rc_player.proofs.line.rendered.Given as goal

abbrev pub invariant-loop-line : goal.invariant-loop-line
invariant-loop-line l = l.text ≡ line_texts (take l.line-index l.lines)
