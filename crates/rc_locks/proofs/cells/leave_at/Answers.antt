use Rattle.rc_locks.specs.Cells.{others}
use Rattle.rc_locks.proofs.FlagFacts.{found_is}
use Rattle.rc_locks.proofs.CellFacts.{list_set}
use Rattle.rc_locks.proofs.cells.leave_at.Goals as goal

pub returns-in-Some-clause-writers : goal.returns-in-Some-clause-writers
returns-in-Some-clause-writers c =
    list_set (λ x. x.writers.items) c.args.cells.now.entries (c.get_mut.follows.lender c.leave.new.cell).entries c.args.key.now c.in-Some.cell.now c.leave.new.cell c.in-Some.ensures.value
    ((c.get_mut.follows.holds c.leave.new.cell).3 (found_is _ c.in-Some.cell.now c.in-Some.ensures.value)).0 (others c.args.tx) c.leave.ensures.writers

pub returns-in-Some-clause-readers : goal.returns-in-Some-clause-readers
returns-in-Some-clause-readers c =
    list_set (λ x. x.readers.items) c.args.cells.now.entries (c.get_mut.follows.lender c.leave.new.cell).entries c.args.key.now c.in-Some.cell.now c.leave.new.cell c.in-Some.ensures.value
    ((c.get_mut.follows.holds c.leave.new.cell).3 (found_is _ c.in-Some.cell.now c.in-Some.ensures.value)).0 (others c.args.tx) c.leave.ensures.readers
