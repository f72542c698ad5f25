use Rattle.std.proofs.Common.{◌+◌, sym, subst, arith}
use Rattle.rc_record.specs.Rows.{AreWritten}
use Rattle.rc_record.proofs.RowFacts.{AreWritten-put}
use Rattle.rc_record.proofs.rows.Rows.raise.Goals as goal

pub invariant_of-self-in_ok-insert : goal.invariant_of-self-in_ok-insert
invariant_of-self-in_ok-insert c =
    subst AreWritten (sym c.in_ok-insert.ensures.entries)
    (AreWritten-put c.self.inside.map.entries c.copy-then-lt.result (c.read.inside.0 + 1, c.in_ok-copy.field-0) (omega arith) c.self.invariant)

pub invariant_of-self-in_ok-insert-2 : goal.invariant_of-self-in_ok-insert-2
invariant_of-self-in_ok-insert-2 c =
    subst AreWritten (sym c.in_ok-insert.ensures.entries)
    (AreWritten-put c.self.inside.map.entries c.copy-then-lt.result (c.read.inside.0 + 1, c.in_ok-copy.field-0) (omega arith) c.self.invariant)

pub invariant_of-self-in_ok-insert-3 : goal.invariant_of-self-in_ok-insert-3
invariant_of-self-in_ok-insert-3 c =
    subst AreWritten (sym c.in_ok-insert.ensures.entries)
    (AreWritten-put c.self.inside.map.entries c.copy-then-lt.result (c.read.inside.0 + 1, c.in_ok-copy.field-0) (omega arith) c.self.invariant)
