-- Steps that gave a value, and numbers that fit.
use Rattle.std.proofs.Common.{◌≡◌, ℕ, ◌+◌, ◌*◌, ◌-◌, ◌≤◌, leb, Bool, true, false, ◌&&◌, cond, List, [], ◌∷◌, Option, Some, None, refl, arith}
use Rattle.std.specs.Char.{is_ascii_digit}
use Rattle.std.proofs.lemmas.Bool.{leb-true}
use Rattle.std.proofs.lemmas.Option.{none-some, same_Some, cond_some}
use Rattle.rc_script.specs.Words.{◌>>=◌, only_if, with_digit, with_digits, number_up_to, number_in}

-- the value of a step that gave one
pub bind_some : {A B : Type 0} (o : Option A) (f : A → Option B) (y : B) → (o >>= f) ≡ Some y → (x : A) × (o ≡ Some x) × (f x ≡ Some y)
bind_some (Some x) f y e = (x, refl, e)
bind_some None f y e = absurd (none-some y e)

-- a test that passed
pub only_if_some : {A : Type 0} (test : Bool) (x y : A) → only_if test x ≡ Some y → (test ≡ true) × (x ≡ y)
only_if_some test x y e = cond_some test x y e

-- ---- numbers

pub and_second : (a b : Bool) → (a && b) ≡ true → b ≡ true
and_second true b e = e
and_second false b e = absurd cc

pub unless_some : {A : Type 0} (test : Bool) (o : Option A) (x : A) → cond test None o ≡ Some x → o ≡ Some x
unless_some true o x e = absurd (none-some x e)
unless_some false o x e = e

with_digits_fits : (limit n : ℕ) (digits : List ℕ) (m : ℕ) → n ≤ limit → with_digits limit n digits ≡ Some m → m ≤ limit
with_digits_fits limit n [] m le e = let same : n ≡ m = same_Some _ _ e in omega arith
with_digits_fits limit n (byte ∷ bytes) m le e =
    let a = bind_some (with_digit limit n byte) (λ k. with_digits limit k bytes) m e in
    let b = only_if_some (is_ascii_digit byte && leb (10 * n + (byte - 48)) limit) (10 * n + (byte - 48)) a.0 a.1 in
    with_digits_fits limit a.0 bytes m (rw (← b.1) (leb-true _ _ (and_second _ _ b.0))) a.2

number_up_to_fits : (limit : ℕ) (word : List ℕ) (n : ℕ) → number_up_to limit word ≡ Some n → n ≤ limit
number_up_to_fits limit [] n e = absurd (none-some n e)
number_up_to_fits limit (byte ∷ []) n e = with_digits_fits limit 0 (byte ∷ []) n (omega arith) e
number_up_to_fits limit (byte ∷ next ∷ bytes) n e = with_digits_fits limit 0 (byte ∷ next ∷ bytes) n (omega arith) (unless_some _ _ n e)

pub number_in_fits : (low high : ℕ) (word : List ℕ) (n : ℕ) → number_in low high word ≡ Some n → (low ≤ n) × (n ≤ high)
number_in_fits low high word n e =
    let a = bind_some (number_up_to high word) (λ k. only_if (leb low k) k) n e in
    let b = only_if_some (leb low a.0) a.0 n a.2 in
    let same : a.0 ≡ n = b.1 in
    (rw (← same) (leb-true _ _ b.0), rw (← same) (number_up_to_fits high word a.0 a.1))
