use Rattle.std.proofs.Common.{◌≡◌, ◌&&◌, ℕ, List, drop, is_some}
use Rattle.rc_ids.specs.Texts.{same_key}
use Rattle.rc_body.specs.declared.entry.Entry.{Entry}
use Rattle.rc_locks.specs.Cells.{writers_at, readers_at, IsRoomFor, joins}
use Rattle.rc_locks.proofs.cells.hold.Given as goal

abbrev pub invariant-loop-index : goal.invariant-loop-index
invariant-loop-index l =
    IsRoomFor l.tx l.part l.cells.entries
    × ((k : List ℕ) → joins l.tx (λ (e : Entry). same_key e.key k && is_some e.write) (drop l.index l.part) (writers_at l.cells.entries k) ≡ joins l.tx (λ (e : Entry). same_key e.key k && is_some e.write) l.part (writers_at l.fn.cells.entries k))
    × ((k : List ℕ) → joins l.tx (λ (e : Entry). same_key e.key k) (drop l.index l.part) (readers_at l.cells.entries k) ≡ joins l.tx (λ (e : Entry). same_key e.key k) l.part (readers_at l.fn.cells.entries k))
