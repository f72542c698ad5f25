-- How far the lists of other coordinators were caught up with.
use Rattle.std.specs.Prelude.{ℕ}
use Rattle.rc_ids.specs.Tables.{Table}

-- the place in the list of each datacentre, and how many datacentres more are sure to find memory
pub record PlaceTable : Type 0 where
  pub table : Table ℕ ℕ
  pub spare : ℕ

abbrev pub place_table : Table ℕ ℕ → ℕ → PlaceTable
place_table table spare = record { table = table; spare = spare }
