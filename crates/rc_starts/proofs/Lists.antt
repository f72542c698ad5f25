-- Places of members, and what is some of a joined list.
use Rattle.std.proofs.Common.{◌≡◌, ℕ, zero, suc, List, [], ◌∷◌, ◌++◌, refl, sym, ap, Bool, true, false, Some, ⊎_elim, true≢false}
use Rattle.std.specs.Prelude.{◌||◌, slice_get}
use Rattle.std.specs.List.{list_any}
use Rattle.rc_ids.specs.Tables.{In}

pub in_got : {A : Type 0} (xs : List A) (x : A) → In x xs → (i : ℕ) × (slice_get xs i ≡ Some x)
in_got [] x h = absurd h
in_got (y ∷ xs) x h = ⊎_elim (λ e. (zero, ap Some e)) (λ j. let r = in_got xs x j in (suc r.0, r.1)) h

pub any_left : {A : Type 0} (p : A → Bool) (xs ys : List A) → list_any p xs ≡ true → list_any p (xs ++ ys) ≡ true
any_left p [] ys e = absurd (true≢false (sym e))
any_left p (x ∷ xs) ys e = go (any_left p xs ys) (p x) e
  where
    go : (list_any p xs ≡ true → list_any p (xs ++ ys) ≡ true) → (b : Bool) → (b || list_any p xs) ≡ true → (b || list_any p (xs ++ ys)) ≡ true
    go rest true h = refl
    go rest false h = rest h
