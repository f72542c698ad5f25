-- Places in a list, counted from 0.
use Rattle.std.specs.Prelude.{ℕ, zero, suc, Bool, false, List, [], ◌∷◌, if◌then◌else◌}

-- where the first item stands that passes; the length where none does
abbrev pub place_where : {X : Type 0} → (X → Bool) → List X → ℕ
place_where passes [] = 0
place_where passes (x ∷ xs) = if passes x then 0 else suc (place_where passes xs)

-- whether the item at the place passes; there may be none
abbrev pub passes_at : {X : Type 0} → (X → Bool) → List X → ℕ → Bool
passes_at passes [] place = false
passes_at passes (x ∷ xs) zero = passes x
passes_at passes (x ∷ xs) (suc place) = passes_at passes xs place
