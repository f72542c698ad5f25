use Rattle.std.proofs.Common.{◌≡◌, ℕ, List, drop}
use Rattle.rc_ids.specs.Texts.{same_key}
use Rattle.rc_body.specs.declared.entry.Entry.{Entry}
use Rattle.rc_locks.specs.Cells.{writers_at, readers_at, leaves}
use Rattle.rc_locks.proofs.cells.release.Given as goal

abbrev pub invariant-loop-index : goal.invariant-loop-index
invariant-loop-index l =
    ((k : List ℕ) → leaves l.tx (λ (e : Entry). same_key e.key k) (drop l.index l.part) (writers_at l.cells.entries k) ≡ leaves l.tx (λ (e : Entry). same_key e.key k) l.part (writers_at l.fn.cells.entries k))
    × ((k : List ℕ) → leaves l.tx (λ (e : Entry). same_key e.key k) (drop l.index l.part) (readers_at l.cells.entries k) ≡ leaves l.tx (λ (e : Entry). same_key e.key k) l.part (readers_at l.fn.cells.entries k))
