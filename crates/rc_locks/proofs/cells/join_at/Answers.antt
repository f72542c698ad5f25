use Rattle.std.proofs.Common.{ℕ, List, if◌then◌else◌, ◌∙◌}
use Rattle.std.specs.Ordering.{nat_cmp}
use Rattle.rc_ids.specs.Tables.{added}
use Rattle.rc_ids.specs.Texts.{same_key}
use Rattle.rc_locks.specs.Cells.{writers_at}
use Rattle.rc_locks.proofs.FlagFacts.{found_is}
use Rattle.rc_locks.proofs.CellFacts.{list_set, rooms_set, and_if}
use Rattle.rc_locks.proofs.cells.join_at.Goals as goal

pub returns-in-Some-clause-writers : goal.returns-in-Some-clause-writers
returns-in-Some-clause-writers c k =
    let old : List ℕ = writers_at c.args.cells.now.entries k in
    list_set (λ x. x.writers.items) c.args.cells.now.entries (c.get_mut.follows.lender c.join.new.cell).entries c.args.key.now c.in-Some.cell.now c.join.new.cell c.in-Some.ensures.value
    ((c.get_mut.follows.holds c.join.new.cell).3 (found_is _ c.in-Some.cell.now c.in-Some.ensures.value)).0 (λ (xs : List ℕ). if c.args.written then added nat_cmp xs c.args.tx else xs) c.join.ensures.writers k
    ∙ and_if (same_key c.args.key.now k) c.args.written (added nat_cmp old c.args.tx) old

pub returns-in-Some-clause-readers : goal.returns-in-Some-clause-readers
returns-in-Some-clause-readers c =
    list_set (λ x. x.readers.items) c.args.cells.now.entries (c.get_mut.follows.lender c.join.new.cell).entries c.args.key.now c.in-Some.cell.now c.join.new.cell c.in-Some.ensures.value
    ((c.get_mut.follows.holds c.join.new.cell).3 (found_is _ c.in-Some.cell.now c.in-Some.ensures.value)).0 (λ (xs : List ℕ). added nat_cmp xs c.args.tx) c.join.ensures.readers

pub returns-in-Some-clause-rooms : goal.returns-in-Some-clause-rooms
returns-in-Some-clause-rooms c =
    rooms_set c.args.cells.now.entries (c.get_mut.follows.lender c.join.new.cell).entries c.args.key.now c.join.new.cell c.args.tx
    ((c.get_mut.follows.holds c.join.new.cell).3 (found_is _ c.in-Some.cell.now c.in-Some.ensures.value)).0 (c.join.ensures.room, c.join.ensures.place)
