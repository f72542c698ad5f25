-- Lists of transactions, each once, with what is known of them.
use Rattle.std.specs.Prelude.{◌≡◌, ℕ, ◌≤◌, ◌==◌, Bool, false, List, [], ◌∷◌, length}
use Rattle.std.specs.List.{list_any}
use Rattle.rc_body.specs.declared.decision.Decision.{Decision}

-- the transaction is in the list
abbrev pub has_tx : {X : Type 0} → ℕ → List (ℕ × X) → Bool
has_tx t xs = list_any (λ x. x.0 == t) xs

-- no transaction comes twice
abbrev pub TxsDiffer : {X : Type 0} → List (ℕ × X) → Type 0
TxsDiffer [] = Unit {0}
TxsDiffer (x ∷ xs) = (has_tx x.0 xs ≡ false) × TxsDiffer xs

pub record IsPage (page : List (ℕ × Decision)) : Type 0 where
  pub few : length page ≤ 64
  pub apart : TxsDiffer page
