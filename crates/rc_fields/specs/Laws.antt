-- What holds of every kind of field.
use Rattle.std.specs.Prelude.{◌≡◌, ℕ, List, ◌++◌}

-- no spelling of this kind begins another: what is spelled first, and what follows, is told by the bytes
pub record IsKind {A : Type 0} (spelled : A → List ℕ) (fits : A → Type 0) : Type 0 where
  pub told : (a b : A) (x y : List ℕ) → fits a → fits b → spelled a ++ x ≡ spelled b ++ y → (a ≡ b) × (x ≡ y)
