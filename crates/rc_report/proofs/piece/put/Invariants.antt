use Rattle.std.proofs.Common.{◌≡◌, ◌++◌, take}
use Rattle.rc_report.specs.Pieces.{pieces_text}
use Rattle.rc_report.proofs.piece.put.Given as goal

abbrev pub invariant-loop-piece : goal.invariant-loop-piece
invariant-loop-piece l = l.out ≡ l.initial.out ++ pieces_text (take l.piece-index l.pieces)
