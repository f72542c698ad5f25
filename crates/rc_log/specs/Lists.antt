-- The records of a journal in memory.
use Rattle.std.specs.Prelude.{ℕ, ◌≡◌, ◌+◌, ◌<◌, ◌≤◌, List, [], map, Vec}
use Rattle.std.specs.declared.alloc.Global.{Global}

abbrev pub items_of : List (Vec ℕ Global) → List (List ℕ)
items_of records = map (λ (v : Vec ℕ Global). v.items) records

-- there is room for one record of fewer bytes than are spare
pub record HasSpare (count slots : ℕ) (next : List ℕ) (room spare : ℕ) : Type 0 where
  pub none_yet : next ≡ []
  pub slot : 0 < spare → count + 1 ≤ slots
  pub bytes : 0 < spare → spare ≤ room + 1
