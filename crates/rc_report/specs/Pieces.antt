-- The pieces of a line.
use Rattle.std.specs.Prelude.{ℕ, List}
use Rattle.std.specs.List.{flat_map}
use Rattle.std.specs.Fmt.{decimal}
use Rattle.rc_report.specs.Names.{tx_text, dc_text, node_text}
use Rattle.rc_report.specs.declared.piece.Piece.{Piece}
use Rattle.rc_report.specs.declared.piece.Piece.TheVariants.{Word, Named, Held, Number, Tx, Dc, Node}

abbrev pub piece_text : Piece → List ℕ
piece_text (Word bytes) = bytes.now
piece_text (Named key) = key.now
piece_text (Held value) = value.now
piece_text (Number n) = decimal n
piece_text (Tx t) = tx_text t
piece_text (Dc d) = dc_text d
piece_text (Node node) = node_text node

abbrev pub pieces_text : List Piece → List ℕ
pieces_text pieces = flat_map piece_text pieces
