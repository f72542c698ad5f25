-- What all of the bytes spell.
use Rattle.std.specs.Prelude.{◌≡◌, ℕ, List, [], ◌∷◌, Option, None, Some}
use Rattle.rc_fields.specs.Formats.{IsBytes, Reader, ◌>>=◌}

-- no byte stands behind it
abbrev pub at_end : {A : Type 0} → A × List ℕ → Option A
at_end (a, []) = Some a
at_end (a, b ∷ bytes) = None

abbrev pub all_of : {A : Type 0} → Reader A → List ℕ → Option A
all_of at bytes = at bytes >>= at_end

-- what is read is spelled by all of the bytes, and what is spelled is read
pub record ReadsAll {A : Type 0} (spelled : A → List ℕ) (fits : A → Type 0) (at : List ℕ → Option A) : Type 0 where
  pub takes : (bytes : List ℕ) (a : A) → IsBytes bytes → at bytes ≡ Some a → fits a × (bytes ≡ spelled a)
  pub again : (a : A) → fits a → at (spelled a) ≡ Some a
