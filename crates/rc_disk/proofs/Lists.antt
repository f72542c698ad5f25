-- Numbers in a list, of which one is taken out.
use Rattle.std.proofs.Common.{◌≡◌, ◌≢◌, ℕ, zero, suc, ◌+◌, ◌<◌, ◌==◌, ◌||◌, Bool, true, false, List, [], ◌∷◌, ◌++◌, length, get_or, take, drop, refl, sym, ap, ◌∙◌, arith}
use Rattle.rc_ports.specs.Causes.{is_listed}

not_same : (x n m : ℕ) → x ≡ n → m ≢ n → (x == m) ≡ false
not_same x n m is other = grind (arith, is, other)

pub listed-removed : (xs : List ℕ) (i d n m : ℕ) → i < length xs → get_or xs i d ≡ n → m ≢ n → is_listed (take i xs ++ drop (suc i) xs) m ≡ is_listed xs m
listed-removed [] i d n m inside is other = grind (arith, inside)
listed-removed (x ∷ xs) zero d n m inside is other = ap (λ (b : Bool). b || is_listed xs m) (sym (not_same x n m is other))
listed-removed (x ∷ xs) (suc i) d n m inside is other =
    let less : i < length xs = omega (arith, inside) in
    ap (λ (b : Bool). (x == m) || b) (listed-removed xs i d n m less is other)

pub listed-at : (xs : List ℕ) (i d n : ℕ) → i < length xs → get_or xs i d ≡ n → is_listed xs n ≡ true
listed-at [] i d n inside is = grind (arith, inside)
listed-at (x ∷ xs) zero d n inside is = grind (arith, is)
listed-at (x ∷ xs) (suc i) d n inside is =
    let less : i < length xs = omega (arith, inside) in
    let more : is_listed xs n ≡ true = listed-at xs i d n less is in
    ap (λ (b : Bool). (x == n) || b) more ∙ or_true (x == n)
  where
    or_true : (b : Bool) → (b || true) ≡ true
    or_true true = refl
    or_true false = refl
