use Rattle.std.proofs.Common.{◌≡◌, ℕ, List, drop, true, false}
use Rattle.rc_body.specs.Bodies.{has_key}
use Rattle.rc_locks.specs.Cells.{cell_at, writers_at, readers_at, HasRooms}
use Rattle.rc_locks.proofs.cells.make_room.Given as goal

abbrev pub invariant-loop-index : goal.invariant-loop-index
invariant-loop-index l =
    ((k : List ℕ) → writers_at l.cells.entries k ≡ writers_at l.fn.cells.entries k)
    × ((k : List ℕ) → readers_at l.cells.entries k ≡ readers_at l.fn.cells.entries k)
    × ((k : List ℕ) (t : ℕ) → has_key k l.part ≡ true → has_key k (drop l.index l.part) ≡ false → HasRooms t (cell_at l.cells.entries k))
