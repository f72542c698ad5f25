-- Counting from 1 on.
use Rattle.std.proofs.Common.{◌≡◌, ℕ, suc, ◌+◌, Bool, true, false, cond, not, ◌&&◌, ◌||◌, List, [], ◌∷◌, ◌++◌, filter, refl, ap, ◌∙◌, add-one}
use Rattle.std.specs.List.{list_all}
use Rattle.std.proofs.lemmas.List.Folds.{list_all-append}
use Rattle.std.proofs.lemmas.List.Elements.{filter-append}
use Rattle.rc_ids.specs.Tables.{up_to}

and_true : (b : Bool) → (b && true) ≡ b
and_true true = refl
and_true false = refl

pub all_more : (p : ℕ → Bool) (n : ℕ) → list_all p (up_to (n + 1)) ≡ (list_all p (up_to n) && p (n + 1))
all_more p n =
    rw add-one (list_all-append p (up_to n) (suc n ∷ []) ∙ ap (λ b. list_all p (up_to n) && b) (and_true (p (suc n))))

pub chosen_more : (p q : ℕ → Bool) (n : ℕ)
    → list_all p (filter q (up_to (n + 1))) ≡ (list_all p (filter q (up_to n)) && (not (q (n + 1)) || p (n + 1)))
chosen_more p q n =
    rw add-one
    (ap (list_all p) (filter-append q (up_to n) (suc n ∷ [])) ∙ list_all-append p (filter q (up_to n)) (filter q (suc n ∷ []))
    ∙ ap (λ b. list_all p (filter q (up_to n)) && b) (last (q (suc n))))
  where
    last : (b : Bool) → list_all p (cond b (suc n ∷ []) []) ≡ (not b || p (suc n))
    last true = and_true (p (suc n))
    last false = refl
