use Rattle.std.proofs.Common.{List, ℕ, [], Option, Some, sym, ap, ◌∙◌, subst}
use Rattle.std.specs.declared.hash.BuildHasherDefault.{BuildHasherDefault}
use Rattle.std.specs.declared.hash.FoldHasher.{FoldHasher}
use Rattle.std.specs.HashMap.{HashMap}
use Rattle.std.proofs.lemmas.Result.{on_ok_weaker}
use Rattle.rc_ids.specs.Tables.{Table, maybe}
use Rattle.rc_ids.specs.Texts.{same_key}
use Rattle.rc_locks.specs.declared.cells.Holders.{Holders}
use Rattle.rc_locks.specs.Cells.{cell_at, writers_at, readers_at, HasRooms}
use Rattle.rc_locks.proofs.FlagFacts.{found_is}
use Rattle.rc_locks.proofs.CellFacts.{list_set, list_idle, rooms_set, same_if}
use Rattle.rc_locks.proofs.cells.widen_at.Goals as goal

pub returns-in-Some-clause-writers : goal.returns-in-Some-clause-writers
returns-in-Some-clause-writers c k =
    list_set (λ x. x.writers.items) c.args.cells.now.entries (c.get_mut.follows.lender c.widen.new.cell).entries c.args.key.now c.in-Some.cell.now c.widen.new.cell c.in-Some.ensures.value
    ((c.get_mut.follows.holds c.widen.new.cell).3 (found_is _ c.in-Some.cell.now c.in-Some.ensures.value)).0 (λ xs. xs) c.widen.ensures.writers k
    ∙ same_if (same_key c.args.key.now k) (writers_at c.args.cells.now.entries k)

pub returns-in-Some-clause-readers : goal.returns-in-Some-clause-readers
returns-in-Some-clause-readers c k =
    list_set (λ x. x.readers.items) c.args.cells.now.entries (c.get_mut.follows.lender c.widen.new.cell).entries c.args.key.now c.in-Some.cell.now c.widen.new.cell c.in-Some.ensures.value
    ((c.get_mut.follows.holds c.widen.new.cell).3 (found_is _ c.in-Some.cell.now c.in-Some.ensures.value)).0 (λ xs. xs) c.widen.ensures.readers k
    ∙ same_if (same_key c.args.key.now k) (readers_at c.args.cells.now.entries k)

pub returns-in-Some-clause-kept : goal.returns-in-Some-clause-kept
returns-in-Some-clause-kept c =
    on_ok_weaker c.widen.result
    (λ room k t had. rooms_set c.args.cells.now.entries (c.get_mut.follows.lender c.widen.new.cell).entries c.args.key.now c.widen.new.cell t
    ((c.get_mut.follows.holds c.widen.new.cell).3 (found_is _ c.in-Some.cell.now c.in-Some.ensures.value)).0 (room t) k had)
    c.widen.ensures.room

pub returns-in_ok-insert-in-None-clause-writers : goal.returns-in_ok-insert-in-None-clause-writers
returns-in_ok-insert-in-None-clause-writers c k =
    let same = ap (λ (m : HashMap (List ℕ) Holders (BuildHasherDefault FoldHasher)). m.entries) c.get_mut.follows.holds-at-none in
    let none = ap (λ (es : Table (List ℕ) Holders). writers_at es c.copy.result) same ∙ ap (writers_at c.args.cells.now.entries) c.copy.ensures
    ∙ sym (ap (λ (o : Option Holders). maybe o [] (λ x. x.writers.items)) c.in-None.ensures.value) in
    list_idle (λ x. x.writers.items) c.get_mut.follows.lender-at-none.entries c.insert.new.self.entries c.copy.result (Some c.in_ok-cell-in-None.cell)
    c.in_ok-insert-in-None.ensures.updates.0 c.in_ok-cell-in-None.ensures.writers none k
    ∙ ap (λ (es : Table (List ℕ) Holders). writers_at es k) same

pub returns-in_ok-insert-in-None-clause-readers : goal.returns-in_ok-insert-in-None-clause-readers
returns-in_ok-insert-in-None-clause-readers c k =
    let same = ap (λ (m : HashMap (List ℕ) Holders (BuildHasherDefault FoldHasher)). m.entries) c.get_mut.follows.holds-at-none in
    let none = ap (λ (es : Table (List ℕ) Holders). readers_at es c.copy.result) same ∙ ap (readers_at c.args.cells.now.entries) c.copy.ensures
    ∙ sym (ap (λ (o : Option Holders). maybe o [] (λ x. x.readers.items)) c.in-None.ensures.value) in
    list_idle (λ x. x.readers.items) c.get_mut.follows.lender-at-none.entries c.insert.new.self.entries c.copy.result (Some c.in_ok-cell-in-None.cell)
    c.in_ok-insert-in-None.ensures.updates.0 c.in_ok-cell-in-None.ensures.readers none k
    ∙ ap (λ (es : Table (List ℕ) Holders). readers_at es k) same

pub returns-in_ok-insert-in-None-clause-kept : goal.returns-in_ok-insert-in-None-clause-kept
returns-in_ok-insert-in-None-clause-kept c k t had =
    let same = ap (λ (m : HashMap (List ℕ) Holders (BuildHasherDefault FoldHasher)). m.entries) c.get_mut.follows.holds-at-none in
    rooms_set c.get_mut.follows.lender-at-none.entries c.insert.new.self.entries c.copy.result c.in_ok-cell-in-None.cell t
    c.in_ok-insert-in-None.ensures.updates.0 (c.in_ok-cell-in-None.ensures.room t) k
    (subst (λ (es : Table (List ℕ) Holders). HasRooms t (cell_at es k)) (sym same) had)
