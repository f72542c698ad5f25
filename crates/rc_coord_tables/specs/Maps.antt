-- A list in order, seen as a table by number of what its values stand for.
use Rattle.std.specs.Prelude.{ℕ, List, [], ◌∷◌}
use Rattle.rc_ids.specs.Tables.{Table}
use Rattle.rc_body.specs.Pages.{TxsDiffer}
use Rattle.rc_record.specs.InOrder.{filed}

-- each value as what it stands for
abbrev pub mapped : {X Y : Type 0} → (X → Y) → List (ℕ × X) → List (ℕ × Y)
mapped f [] = []
mapped f (e ∷ es) = (e.0, f e.1) ∷ mapped f es

abbrev pub shown_by : {X Y : Type 0} → (X → Y) → List (ℕ × X) → Table ℕ Y
shown_by f es = mapped f (filed [] es)

-- each value is as it has to be
abbrev pub AllAre : {X : Type 0} → (X → Type 0) → List (ℕ × X) → Type 0
AllAre P [] = Unit {0}
AllAre P (e ∷ es) = P e.1 × AllAre P es

pub record IsList {X : Type 0} (P : X → Type 0) (es : List (ℕ × X)) : Type 0 where
  pub apart : TxsDiffer es
  pub fit : AllAre P es
