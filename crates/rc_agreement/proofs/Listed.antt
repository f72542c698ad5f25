-- Lists of committed transactions with one more at their end.
use Rattle.std.proofs.Common.{◌≡◌, ℕ, List, [], ◌∷◌, ◌++◌, refl, sym, ◌∙◌, Bool, true, false, true≢false}
use Rattle.std.specs.Prelude.{◌||◌, ◌==◌}
use Rattle.std.proofs.lemmas.Bool.{eqb-true, eq-eqb}
use Rattle.rc_body.specs.declared.entry.Entry.{Entry}
use Rattle.rc_runs.specs.Votes.{is_listed}
use Rattle.rc_claims.specs.Outcomes.{AreNew, EachOnce}

pub or_first_false : (a b : Bool) → (a || b) ≡ false → a ≡ false
or_first_false true b e = e
or_first_false false b e = refl

pub or_second_false : (a b : Bool) → (a || b) ≡ false → b ≡ false
or_second_false true b e = absurd (true≢false e)
or_second_false false b e = e

pub or_more : (a b d : Bool) → (b ≡ true → d ≡ true) → (a || b) ≡ true → (a || d) ≡ true
or_more true b d f e = refl
or_more false b d f e = f e

same_false : (a b : ℕ) → (a == b) ≡ false → (b == a) ≡ false
same_false a b e = go (b == a) refl
  where
    go : (v : Bool) → (b == a) ≡ v → v ≡ false
    go true is = absurd (true≢false (sym (eq-eqb a b (sym (eqb-true b a is))) ∙ e))
    go false is = refl

pub listed_left : (t : ℕ) (xs ys : List (ℕ × List Entry)) → is_listed xs t ≡ true → is_listed (xs ++ ys) t ≡ true
listed_left t [] ys e = absurd (true≢false (sym e))
listed_left t (x ∷ xs) ys e = go (x.0 == t) (listed_left t xs ys) e
  where
    go : (v : Bool) → (is_listed xs t ≡ true → is_listed (xs ++ ys) t ≡ true) → (v || is_listed xs t) ≡ true → (v || is_listed (xs ++ ys) t) ≡ true
    go true f e = refl
    go false f e = f e

pub listed_last : (t : ℕ) (body : List Entry) (xs : List (ℕ × List Entry)) → is_listed (xs ++ (t, body) ∷ []) t ≡ true
listed_last t body [] = rw (eq-eqb t t refl)
listed_last t body (x ∷ xs) = go (x.0 == t) (listed_last t body xs)
  where
    go : (v : Bool) → is_listed (xs ++ (t, body) ∷ []) t ≡ true → (v || is_listed (xs ++ (t, body) ∷ []) t) ≡ true
    go true e = refl
    go false e = e

unlisted_more : (t u : ℕ) (body : List Entry) (xs : List (ℕ × List Entry)) → is_listed xs t ≡ false → (u == t) ≡ false → is_listed (xs ++ (u, body) ∷ []) t ≡ false
unlisted_more t u body [] e n = rw n
unlisted_more t u body (x ∷ xs) e n = rw (or_first_false (x.0 == t) (is_listed xs t) e) (unlisted_more t u body xs (or_second_false (x.0 == t) (is_listed xs t) e) n)

pub once_more : (t : ℕ) (body : List Entry) (xs : List (ℕ × List Entry)) → EachOnce xs → is_listed xs t ≡ false → EachOnce (xs ++ (t, body) ∷ [])
once_more t body [] h e = (refl, tt)
once_more t body (x ∷ xs) h e = (
  unlisted_more x.0 t body xs h.0 (same_false x.0 t (or_first_false (x.0 == t) (is_listed xs t) e)),
  once_more t body xs h.1 (or_second_false (x.0 == t) (is_listed xs t) e),
)

pub new_more : (t : ℕ) (body : List Entry) (earlier xs : List (ℕ × List Entry)) → AreNew earlier xs → is_listed earlier t ≡ false → AreNew earlier (xs ++ (t, body) ∷ [])
new_more t body earlier [] h e = (e, tt)
new_more t body earlier (x ∷ xs) h e = (h.0, new_more t body earlier xs h.1 e)
