-- Counting from 1 on.
use Rattle.std.proofs.Common.{◌≡◌, ℕ, suc, ◌+◌, Bool, true, false, ◌&&◌, [], ◌∷◌, refl, ap, ◌∙◌, add-one}
use Rattle.std.specs.List.{list_all}
use Rattle.std.proofs.lemmas.List.Folds.{list_all-append}
use Rattle.rc_ids.specs.Tables.{up_to}

and_true : (b : Bool) → (b && true) ≡ b
and_true true = refl
and_true false = refl

pub all_more : (p : ℕ → Bool) (n : ℕ) → list_all p (up_to (n + 1)) ≡ (list_all p (up_to n) && p (n + 1))
all_more p n =
    rw add-one (list_all-append p (up_to n) (suc n ∷ []) ∙ ap (λ b. list_all p (up_to n) && b) (and_true (p (suc n))))
