-- Values by the numbers of transactions, with the room that is left.
use Rattle.std.specs.Prelude.{ℕ}
use Rattle.rc_ids.specs.Tables.{Table}

-- the table, and how many transactions more are sure to find memory
pub record NumberTable (X : Type 0) : Type 0 where
  pub table : Table ℕ X
  pub spare : ℕ

abbrev pub number_table : {X : Type 0} → Table ℕ X → ℕ → NumberTable X
number_table table spare = record { table = table; spare = spare }
