-- Which reads fail.
use Rattle.std.proofs.Common.{◌≡◌, ℕ, ◌+◌, ◌-◌, ◌≤◌, ◌<◌, List, [], ◌∷◌, ◌++◌, refl, sym, ap, ◌∙◌, Bool, true, false, cond, arith, ltb}
use Rattle.std.specs.Prelude.{◌==◌, ◌||◌}
use Rattle.std.proofs.lemmas.Bool.{ltb-true, ltb-false}
use Rattle.rc_runs.specs.Devices.{is_number}
use Rattle.rc_runs.specs.Farms.{numbers_since}
use Rattle.rc_devices.specs.Disks.{AllAbove, AllWithin}
use Rattle.rc_devices.proofs.Numbers.{unequal, moved, early}

one_more : (start n m : ℕ) (ns : List ℕ) → 1 ≤ n → is_number n (numbers_since start ns) ≡ is_number (start + n) ns → (u : Bool) → ltb start m ≡ u
    → is_number n (cond u ((m - start) ∷ numbers_since start ns) (numbers_since start ns)) ≡ ((m == start + n) || is_number (start + n) ns)
one_more start n m ns some rest true is = ap (λ p. p || is_number n (numbers_since start ns)) (moved start n m (ltb-true start m is)) ∙ ap (λ q. (m == start + n) || q) rest
one_more start n m ns some rest false is =
    rest ∙ sym (ap (λ p. p || is_number (start + n) ns) (early start n m some (λ above. let low : m ≤ start = ltb-false start m is in let high : start < m = above in absurd (omega arith))))

-- a number from the start on is among them exactly where it is in the list
pub reads_are : (start n : ℕ) (ns : List ℕ) → 1 ≤ n → is_number n (numbers_since start ns) ≡ is_number (start + n) ns
reads_are start n [] some = refl
reads_are start n (m ∷ ns) some = one_more start n m ns some (reads_are start n ns some) (ltb start m) refl

pub number_in_both : (n : ℕ) (ms ns : List ℕ) → is_number n (ms ++ ns) ≡ (is_number n ms || is_number n ns)
number_in_both n [] ns = refl
number_in_both n (m ∷ ms) ns = ap (λ b. (m == n) || b) (number_in_both n ms ns) ∙ or_assoc (m == n) (is_number n ms) (is_number n ns)
  where
    or_assoc : (a b c : Bool) → (a || (b || c)) ≡ ((a || b) || c)
    or_assoc true b c = refl
    or_assoc false b c = refl

pub number_not_within : (n m : ℕ) (ns : List ℕ) → AllWithin n ns → n < m → is_number m ns ≡ false
number_not_within n m [] within above = refl
number_not_within n m (k ∷ ns) within above =
    ap (λ b. b || is_number m ns) (unequal k m (λ e. let is : k ≡ m = e in let low : k ≤ n = within.0 in absurd (omega arith))) ∙ number_not_within n m ns within.1 above

pub number_not_above : (n m : ℕ) (ns : List ℕ) → AllAbove n ns → m ≤ n → is_number m ns ≡ false
number_not_above n m [] above low = refl
number_not_above n m (k ∷ ns) above low =
    ap (λ b. b || is_number m ns) (unequal k m (λ e. let is : k ≡ m = e in let high : n < k = above.0 in absurd (omega arith))) ∙ number_not_above n m ns above.1 low

pub all_within_more : (n m : ℕ) (ns : List ℕ) → AllWithin n ns → n ≤ m → AllWithin m ns
all_within_more n m [] within low = tt
all_within_more n m (k ∷ ns) within low = (let small : k ≤ n = within.0 in let e : k ≤ m = omega arith in e, all_within_more n m ns within.1 low)

pub all_above_less : (n m : ℕ) (ns : List ℕ) → AllAbove m ns → n ≤ m → AllAbove n ns
all_above_less n m [] above low = tt
all_above_less n m (k ∷ ns) above low = (let high : m < k = above.0 in let e : n < k = omega arith in e, all_above_less n m ns above.1 low)
