use Rattle.std.proofs.Common.{◌≡◌, drop}
use Rattle.rc_record.specs.Rows.{set_rows}
use Rattle.rc_record.proofs.rows.Rows.raise_all.Given as goal

abbrev pub invariant-loop-index : goal.invariant-loop-index
invariant-loop-index l = set_rows l.self (drop l.index l.part) ≡ set_rows l.fn.self l.part
