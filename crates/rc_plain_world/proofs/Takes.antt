-- Taking a number out of a list.
use Rattle.std.proofs.Common.{◌≡◌, ℕ, zero, suc, ◌+◌, ◌<◌, ◌==◌, true, false, List, [], ◌∷◌, ◌++◌, length, take, drop, get_or, refl, ◌∙◌, ap, add-one, arith}
use Rattle.std.proofs.lemmas.Bool.Decides.{nat_tests}
use Rattle.std.specs.Prelude.{remove}
use Rattle.rc_runs.specs.World.{taken_out}

pass : (xs : List ℕ) (i n : ℕ) → i < length xs → (get_or xs i 0 == n) ≡ false → take i xs ++ taken_out (drop i xs) n ≡ take (suc i) xs ++ taken_out (drop (suc i) xs) n
pass [] i n h ne = absurd (omega arith)
pass (x ∷ xs) zero n h ne = rw ne refl
pass (x ∷ xs) (suc i) n h ne = let h' : i < length xs = omega arith in ap (λ (ys : List ℕ). x ∷ ys) (pass xs i n h' ne)

here : (xs : List ℕ) (i n : ℕ) → i < length xs → (get_or xs i 0 == n) ≡ true → take i xs ++ taken_out (drop i xs) n ≡ remove xs i
here [] i n h eq = absurd (omega arith)
here (x ∷ xs) zero n h eq = rw eq refl
here (x ∷ xs) (suc i) n h eq = let h' : i < length xs = omega arith in ap (λ (ys : List ℕ). x ∷ ys) (here xs i n h' eq)

none_left : (xs : List ℕ) (n : ℕ) → take (length xs) xs ++ taken_out (drop (length xs) xs) n ≡ xs
none_left [] n = refl
none_left (x ∷ xs) n = ap (λ (ys : List ℕ). x ∷ ys) (none_left xs n)

pub passed-more : (xs : List ℕ) (n i : ℕ) → i < length xs → (get_or xs i 0 == n) ≡ false → taken_out xs n ≡ take i xs ++ taken_out (drop i xs) n → taken_out xs n ≡ take (i + 1) xs ++ taken_out (drop (i + 1) xs) n
passed-more xs n i h ne so_far = rw add-one (so_far ∙ pass xs i n h ne)

is_at : (xs : List ℕ) (i x n : ℕ) → i < length xs → x ≡ get_or xs i x → x ≡ n → (get_or xs i 0 == n) ≡ true
is_at [] i x n h at is = absurd (omega arith)
is_at (y ∷ ys) zero x n h at is = grind (arith, nat_tests)
is_at (y ∷ ys) (suc i) x n h at is = let h' : i < length ys = omega arith in is_at ys i x n h' at is

pub taken_out-here : (xs : List ℕ) (n i x : ℕ) → i < length xs → x ≡ get_or xs i x → x ≡ n → taken_out xs n ≡ take i xs ++ taken_out (drop i xs) n → taken_out xs n ≡ remove xs i
taken_out-here xs n i x h at is so_far = so_far ∙ here xs i n h (is_at xs i x n h at is)

pub taken_out-none : (xs : List ℕ) (n i : ℕ) → i ≡ length xs → taken_out xs n ≡ take i xs ++ taken_out (drop i xs) n → taken_out xs n ≡ xs
taken_out-none xs n i is so_far = so_far ∙ rw is (none_left xs n)
