-- Walks over numbers that rise.
use Rattle.std.proofs.Common.{◌≡◌, ℕ, suc, ◌-◌, ◌<◌, ◌≤◌, Bool, true, false, cond, nat_lt, List, [], ◌∷◌, ◌++◌, refl, ap, sym, ◌∙◌, subst, arith, append_assoc, Option, Some, None, slice_get}
use Rattle.std.specs.Prelude.{find}
use Rattle.std.proofs.lemmas.Bool.Decides.{nat_tests}
use Rattle.rc_ids.specs.Sets.{IsRisingWithin}

-- the walk is at the next number, and none before it passes
pub record Reached (pass : ℕ → Bool) (numbers : List ℕ) (next : Option ℕ) : Type 0 where
  pub front : List ℕ
  pub back : List ℕ
  pub is : numbers ≡ front ++ back
  pub same : find pass numbers ≡ find pass back
  pub next_is : next ≡ slice_get back 0

pub rises_low : (low high n : ℕ) (front back : List ℕ) → IsRisingWithin low high (front ++ n ∷ back) → (low ≤ n) × (n ≤ high)
rises_low low high n [] back r = (r.0, r.1)
rises_low low high n (a ∷ front) back r = let m = rises_low (suc a) high n front back r.2 in let l = r.0 in (omega (arith, m.0), m.1)

below : (a b : ℕ) → a < b → nat_lt a b ≡ true
below a b lt = grind arith

not_below : (a b : ℕ) → b ≤ a → nat_lt a b ≡ false
not_below a b le = grind arith

next_after : (low high n : ℕ) (front back : List ℕ) → IsRisingWithin low high (front ++ n ∷ back) → find (nat_lt n) (front ++ n ∷ back) ≡ slice_get back 0
next_after low high n [] [] r = ap (λ b. cond b (Some n) None) (not_below n n (omega arith))
next_after low high n [] (m ∷ ms) r =
    ap (λ b. cond b (Some n) (find (nat_lt n) (m ∷ ms))) (not_below n n (omega arith)) ∙ ap (λ b. cond b (Some m) (find (nat_lt n) ms)) (below n m (let l = r.2.0 in omega arith))
next_after low high n (a ∷ front) back r =
    let m = rises_low (suc a) high n front back r.2 in
    ap (λ b. cond b (Some a) (find (nat_lt n) (front ++ n ∷ back))) (not_below n a (omega (arith, m.0))) ∙ next_after (suc a) high n front back r.2

-- the list from the number on
from_number : (back : List ℕ) (n : ℕ) → Some n ≡ slice_get back 0 → (tail : List ℕ) × (back ≡ n ∷ tail)
from_number [] n e = absurd cc
from_number (m ∷ ms) n e = let h : n ≡ m = cc in (ms, ap (λ k. k ∷ ms) (sym h))

pub begins : (pass : ℕ → Bool) (numbers : List ℕ) (next : Option ℕ) → next ≡ slice_get numbers 0 → Reached pass numbers next
begins pass numbers next e = record { front = []; back = numbers; is = refl; same = refl; next_is = e }

pub goes_on : (pass : ℕ → Bool) (numbers : List ℕ) (high n : ℕ) → IsRisingWithin 1 high numbers → Reached pass numbers (Some n) → pass n ≡ false → Reached pass numbers (find (nat_lt n) numbers)
goes_on pass numbers high n rises r fails =
    let t = from_number r.back n r.next_is in
    let is : numbers ≡ r.front ++ n ∷ t.0 = r.is ∙ ap (λ b. r.front ++ b) t.1 in
    record {
      front = r.front ++ n ∷ [];
      back = t.0;
      is = is ∙ sym (append_assoc r.front (n ∷ []) t.0);
      same = r.same ∙ ap (find pass) t.1 ∙ ap (λ b. cond b (Some n) (find pass t.0)) fails;
      next_is = ap (find (nat_lt n)) is ∙ next_after 1 high n r.front t.0 (subst (IsRisingWithin 1 high) is rises);
    }

pub passes_here : (pass : ℕ → Bool) (numbers : List ℕ) (n : ℕ) → Reached pass numbers (Some n) → pass n ≡ true → Some n ≡ find pass numbers
passes_here pass numbers n r holds =
    let t = from_number r.back n r.next_is in
    sym (r.same ∙ ap (find pass) t.1 ∙ ap (λ b. cond b (Some n) (find pass t.0)) holds)

nothing_there : (back : List ℕ) → None ≡ slice_get back 0 → back ≡ []
nothing_there [] e = refl
nothing_there (m ∷ ms) e = absurd cc

pub ends : (pass : ℕ → Bool) (numbers : List ℕ) → Reached pass numbers None → None ≡ find pass numbers
ends pass numbers r = sym (r.same ∙ ap (find pass) (nothing_there r.back r.next_is))

-- how far the walk is from the end
abbrev pub far : ℕ → Option ℕ → ℕ
far high None = 0
far high (Some n) = suc high - n

pub within : (pass : ℕ → Bool) (numbers : List ℕ) (high n : ℕ) → IsRisingWithin 1 high numbers → Reached pass numbers (Some n) → n ≤ high
within pass numbers high n rises r =
    let t = from_number r.back n r.next_is in
    (rises_low 1 high n r.front t.0 (subst (IsRisingWithin 1 high) (r.is ∙ ap (λ b. r.front ++ b) t.1) rises)).1

above : (n m : ℕ) (xs : List ℕ) → find (nat_lt n) xs ≡ Some m → n < m
above n m [] e = absurd cc
above n m (x ∷ xs) e = by (nat_lt n x) refl (above n m xs) e
  where
    by : (b : Bool) → nat_lt n x ≡ b → (find (nat_lt n) xs ≡ Some m → n < m) → cond b (Some x) (find (nat_lt n) xs) ≡ Some m → n < m
    by true is more e = let h : x ≡ m = cc in let lt : n < x = grind (arith, nat_tests) in omega arith
    by false is more e = more e

pub nearer : (pass : ℕ → Bool) (numbers : List ℕ) (high n : ℕ) → IsRisingWithin 1 high numbers → Reached pass numbers (Some n) → far high (find (nat_lt n) numbers) < far high (Some n)
nearer pass numbers high n rises r = by (find (nat_lt n) numbers) refl
  where
    by : (o : Option ℕ) → find (nat_lt n) numbers ≡ o → far high o < suc high - n
    by None e = let w = within pass numbers high n rises r in omega arith
    by (Some m) e = let w = within pass numbers high n rises r in let a = above n m numbers e in omega arith
