-- Numbers in lists.
use Rattle.std.proofs.Common.{◌≡◌, ℕ, zero, suc, ◌+◌, ◌-◌, ◌<◌, ◌≤◌, ◌==◌, Bool, true, false, not, ◌||◌, cond, nat_lt, List, [], ◌∷◌, length, take, drop, refl, ap, sym, ◌∙◌, arith, eq-eqb, ne_eqb, Some, None}
use Rattle.std.specs.Prelude.{position, remove}
use Rattle.std.specs.List.{position_or_len}
use Rattle.std.specs.Ordering.{nat_cmp, is_eq}
use Rattle.std.proofs.lemmas.Bool.Decides.{nat_tests}
use Rattle.std.proofs.lemmas.List.{take_all}
use mathlib.Core.Logic.{dite}
use native.Mathlib.Decide.{ℕ_discrete}
use Rattle.rc_ids.specs.Marks.{apart, tied}
use Rattle.rc_ids.specs.Tables.{member, removed}

same_test : (x y : ℕ) → is_eq (nat_cmp x y) ≡ (y == x)
same_test x y = dite (ℕ_discrete y x)
    (λ e. ap (λ (z : ℕ). is_eq (nat_cmp x z)) e ∙ tied x ∙ sym (eq-eqb y x e))
    (λ ne. apart x y (λ e. ne (sym e)) ∙ sym (ne_eqb y x ne))

abbrev at : ℕ → List ℕ → ℕ
at x xs = position_or_len (λ n. n == x) xs

found_in : (x : ℕ) (xs : List ℕ) → at x xs < length xs → (member nat_cmp xs x ≡ true) × (removed nat_cmp xs x ≡ remove xs (at x xs))
found_in x [] lt = absurd (omega arith)
found_in x (y ∷ ys) lt = by (is_eq (nat_cmp x y)) (y == x) (same_test x y) (found_in x ys) lt
  where
    by : (a b : Bool) → a ≡ b → (at x ys < length ys → (member nat_cmp ys x ≡ true) × (removed nat_cmp ys x ≡ remove ys (at x ys))) → cond (not b) (1 + at x ys) 0 < suc (length ys)
        → (a || member nat_cmp ys x ≡ true) × (cond a ys (y ∷ removed nat_cmp ys x) ≡ remove (y ∷ ys) (cond (not b) (1 + at x ys) 0))
    by true true e more lt = (refl, refl)
    by true false e more lt = absurd cc
    by false true e more lt = absurd cc
    by false false e more lt = let m = more (omega arith) in let k : suc (at x ys) ≡ 1 + at x ys = omega arith in (m.0, ap (λ (r : List ℕ). y ∷ r) m.1 ∙ ap (remove (y ∷ ys)) k)

absent_in : (x : ℕ) (xs : List ℕ) → length xs ≤ at x xs → member nat_cmp xs x ≡ false
absent_in x [] le = refl
absent_in x (y ∷ ys) le = by (is_eq (nat_cmp x y)) (y == x) (same_test x y) (absent_in x ys) le
  where
    by : (a b : Bool) → a ≡ b → (length ys ≤ at x ys → member nat_cmp ys x ≡ false) → suc (length ys) ≤ cond (not b) (1 + at x ys) 0 → a || member nat_cmp ys x ≡ false
    by true true e more le = absurd (omega arith)
    by true false e more le = absurd cc
    by false true e more le = absurd cc
    by false false e more le = more (omega arith)

chosen_at : (n len k : ℕ) (b : Bool) → nat_lt n len ≡ b → cond b (Some n) None ≡ Some k → (n ≡ k) × (k < len)
chosen_at n len k true e is = let s : n ≡ k = cc in (s, grind (arith, nat_tests))
chosen_at n len k false e is = absurd cc

chosen_none : (n len : ℕ) (b : Bool) → nat_lt n len ≡ b → cond b (Some n) None ≡ None → len ≤ n
chosen_none n len true e is = absurd cc
chosen_none n len false e is = grind (arith, nat_tests)

-- the number at a found place is a member, and the first such is removed with it
pub place_found : (x : ℕ) (xs : List ℕ) (k : ℕ) → position (λ n. n == x) xs ≡ Some k → (member nat_cmp xs x ≡ true) × (removed nat_cmp xs x ≡ remove xs k) × (k < length xs)
place_found x xs k is =
    let f = chosen_at (at x xs) (length xs) k (nat_lt (at x xs) (length xs)) refl is in
    let lt : at x xs < length xs = omega (arith, f.0, f.1) in
    let m = found_in x xs lt in
    (m.0, m.1 ∙ ap (remove xs) f.0, f.1)

pub place_missing : (x : ℕ) (xs : List ℕ) → position (λ n. n == x) xs ≡ None → member nat_cmp xs x ≡ false
place_missing x xs is = absent_in x xs (chosen_none (at x xs) (length xs) (nat_lt (at x xs) (length xs)) refl is)

-- what is left of a list, taken whole
pub rest_whole : (c : ℕ) (xs : List ℕ) → take (length xs - c) (drop c xs) ≡ drop c xs
rest_whole zero xs = take_all (length xs - 0) xs (omega arith)
rest_whole (suc c) [] = take_all (length {A = ℕ} [] - suc c) [] (omega arith)
rest_whole (suc c) (x ∷ xs) = let e : length (x ∷ xs) - suc c ≡ length xs - c = omega arith in ap (λ k. take k (drop c xs)) e ∙ rest_whole c xs
