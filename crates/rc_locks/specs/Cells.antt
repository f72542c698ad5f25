-- Who holds each key, by the parts that are prepared.
use Rattle.std.specs.Prelude.{◌≡◌, ℕ, ◌≤◌, ◌==◌, not, ◌&&◌, Bool, true, List, [], ◌∷◌, filter, Option, Some, None, is_some, if◌then◌else◌, Vec, length, vec_capacity}
use Rattle.std.specs.Global.{Global}
use Rattle.std.specs.Ordering.{nat_cmp}
use Rattle.std.specs.List.{slice_get, list_any, list_all}
use Rattle.std.specs.List.Sorted.{IsStrictlySortedBy}
use Rattle.std.specs.Map.{keys_of, lookup}
use Rattle.rc_ids.specs.Tables.{Table, added, maybe}
use Rattle.rc_ids.specs.Texts.{same_key}
use Rattle.rc_body.specs.Bodies.{has_key, writes}
use Rattle.rc_body.specs.declared.entry.Entry.{Entry}
use Rattle.rc_body.specs.declared.reason.Reason.{Reason}
use Rattle.rc_body.specs.declared.reason.Reason.TheVariants.{Locked}
use Rattle.rc_protocol.specs.Shard.{Mark}
use Rattle.rc_locks.specs.declared.cells.Holders.{Holders}

-- the transactions rise
abbrev pub IsRising : Table ℕ (List Entry) → Type 0
IsRising parts = IsStrictlySortedBy nat_cmp (keys_of parts)

-- the transactions whose part writes the key, and those whose part has it
abbrev pub writers_of : Table ℕ (List Entry) → List ℕ → List ℕ
writers_of parts k = keys_of (filter (λ (p : ℕ × List Entry). writes k p.1) parts)

abbrev pub readers_of : Table ℕ (List Entry) → List ℕ → List ℕ
readers_of parts k = keys_of (filter (λ (p : ℕ × List Entry). has_key k p.1) parts)

-- who holds the key, where anybody does
abbrev pub cell_at : Table (List ℕ) Holders → List ℕ → Option Holders
cell_at cells k = lookup (same_key k) cells

abbrev pub writers_at : Table (List ℕ) Holders → List ℕ → List ℕ
writers_at cells k = maybe (cell_at cells k) [] (λ c. c.writers.items)

abbrev pub readers_at : Table (List ℕ) Holders → List ℕ → List ℕ
readers_at cells k = maybe (cell_at cells k) [] (λ c. c.readers.items)

-- the cells are those of the parts
abbrev pub IsIndexed : Table ℕ (List Entry) → Table (List ℕ) Holders → Type 0
IsIndexed parts cells = (k : List ℕ) → (writers_at cells k ≡ writers_of parts k) × (readers_at cells k ≡ readers_of parts k)

-- the list with the transaction fits without memory
abbrev pub HasRoom : ℕ → Vec ℕ Global → Type 0
HasRoom t list = length (added nat_cmp list.items t) ≤ vec_capacity list

abbrev pub HasRooms : ℕ → Option Holders → Type 0
HasRooms t None = ⊥
HasRooms t (Some c) = HasRoom t c.writers × HasRoom t c.readers

-- so do the cells of all keys of the part
abbrev pub IsRoomFor : ℕ → List Entry → Table (List ℕ) Holders → Type 0
IsRoomFor t part cells = (k : List ℕ) → has_key k part ≡ true → HasRooms t (cell_at cells k)

-- a transaction is added for each entry that passes, and taken out for each
abbrev pub joins : ℕ → (Entry → Bool) → List Entry → List ℕ → List ℕ
joins t test [] xs = xs
joins t test (e ∷ es) xs = joins t test es (if test e then added nat_cmp xs t else xs)

abbrev pub others : ℕ → List ℕ → List ℕ
others t xs = filter (λ u. not (u == t)) xs

abbrev pub leaves : ℕ → (Entry → Bool) → List Entry → List ℕ → List ℕ
leaves t test [] xs = xs
leaves t test (e ∷ es) xs = leaves t test es (if test e then others t xs else xs)

-- nobody holds the key of the mark exclusively
abbrev pub is_free_at : Table (List ℕ) Holders → Mark → Bool
is_free_at cells m = not (is_some (slice_get (writers_at cells m.0) 0))

abbrev pub is_among : List ℕ → ℕ → Bool
is_among ts u = list_any (λ t. u == t) ts

-- nor would, without these transactions, of which the mark is none
abbrev pub frees_at : Table (List ℕ) Holders → List ℕ → Mark → Bool
frees_at cells ts m = not (is_among ts m.1) && list_all (is_among ts) (writers_at cells m.0)

-- why an entry may not be prepared, by who writes and who has its key
abbrev pub locked_by : Option ℕ → Option ℕ → List ℕ → Bool → Option Reason
locked_by writer reader k written = maybe writer (if written then maybe reader None (λ u. Some (Locked k u)) else None) (λ u. Some (Locked k u))
