-- The list of outcomes, in the order in which they came, with the room that is left in it.
use Rattle.std.specs.Prelude.{ℕ, List}
use Rattle.std.specs.List.{AllByRecursion}
use Rattle.rc_fields.specs.Ranges.{IsTxNumber}
use Rattle.rc_body.specs.declared.decision.Decision.{Decision}

-- the transactions with their decisions, and how many more are sure to find memory
pub record Known : Type 0 where
  pub entries : List (ℕ × Decision)
  pub spare : ℕ

abbrev pub known : List (ℕ × Decision) → ℕ → Known
known entries spare = record { entries = entries; spare = spare }

-- each entry names a transaction
abbrev pub NameTxs : List (ℕ × Decision) → Type 0
NameTxs entries = AllByRecursion (λ (e : ℕ × Decision). IsTxNumber e.0) entries
