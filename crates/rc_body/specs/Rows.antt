-- Lists of keys, each once, with versions and values.
use Rattle.std.specs.Prelude.{◌≡◌, ℕ, Bool, false, List, [], ◌∷◌}
use Rattle.std.specs.List.{list_any}
use Rattle.rc_ids.specs.Texts.{same_key}

-- a key with its version and value
abbrev pub Row : Type 0
Row = List ℕ × (ℕ × List ℕ)

-- the key is in the list
abbrev pub has_row : List ℕ → List Row → Bool
has_row k rows = list_any (λ (r : Row). same_key r.0 k) rows

-- no key comes twice
abbrev pub RowsDiffer : List Row → Type 0
RowsDiffer [] = Unit {0}
RowsDiffer (r ∷ rs) = (has_row r.0 rs ≡ false) × RowsDiffer rs
