-- Which numbers are among those of the calls that failed by the list.
use Rattle.std.proofs.Common.{◌≡◌, ℕ, ◌+◌, ◌-◌, ◌≤◌, ◌<◌, List, [], ◌∷◌, ◌++◌, refl, sym, ap, ◌∙◌, Bool, true, false, cond, arith, ltb, eqb-true}
use Rattle.std.specs.Prelude.{◌==◌, ◌&&◌, ◌||◌}
use Rattle.std.proofs.lemmas.Bool.{ltb-true, ltb-false, eq-eqb}
use Rattle.rc_disk.specs.declared.power.Failure.{Failure}
use Rattle.rc_runs.specs.Devices.{is_number}
use Rattle.rc_runs.specs.Farms.{numbers_since, is_by_list, failed_by}
use Rattle.rc_devices.specs.Disks.{AreAbove, AreWithin}

-- the call of this number failed by the list
abbrev pub is_listed_call : ℕ → Failure → Bool
is_listed_call n f = is_by_list f.cause && (f.number == n)

abbrev pub among : ℕ → List Failure → Bool
among n [] = false
among n (f ∷ fs) = is_listed_call n f || among n fs

pub unequal : (a b : ℕ) → (a ≡ b → ⊥) → (a == b) ≡ false
unequal a b differ = go (a == b) refl
  where
    go : (v : Bool) → (a == b) ≡ v → (a == b) ≡ false
    go true is = absurd (differ (eqb-true a b is))
    go false is = is

-- a number counted from the start, and the same number
pub moved : (start n m : ℕ) → start < m → ((m - start) == n) ≡ (m == start + n)
moved start n m above = go (m == start + n) refl
  where
    go : (v : Bool) → (m == start + n) ≡ v → ((m - start) == n) ≡ (m == start + n)
    go true is = let e : m ≡ start + n = eqb-true m (start + n) is in let f : m - start ≡ n = omega arith in eq-eqb (m - start) n f ∙ sym is
    go false is =
        unequal (m - start) n
        (λ e. let back : m - start ≡ n = e in let f : m ≡ start + n = omega arith in absurd (differ is (eq-eqb m (start + n) f)))
        ∙ sym is
      where
        differ : {b : Bool} → b ≡ false → b ≡ true → ⊥
        differ p q = absurd (cc)

pub early : (start n m : ℕ) → 1 ≤ n → (start < m → ⊥) → (m == start + n) ≡ false
early start n m some not_above = unequal m (start + n) (λ e. let is : m ≡ start + n = e in let above : start < m = omega arith in not_above above)

-- one more failed call
with_cause : (v : Bool) (start n m : ℕ) (xs : List ℕ) (b : Bool) → 1 ≤ n → is_number n (numbers_since start xs) ≡ b → is_number n (numbers_since start (cond v (m ∷ xs) xs)) ≡ ((v && (m == start + n)) || b)
with_cause false start n m xs b some rest = rest
with_cause true start n m xs b some rest = by_place (ltb start m) refl
  where
    by_place : (u : Bool) → ltb start m ≡ u → is_number n (cond u ((m - start) ∷ numbers_since start xs) (numbers_since start xs)) ≡ ((m == start + n) || b)
    by_place true is = ap (λ p. p || is_number n (numbers_since start xs)) (moved start n m (ltb-true start m is)) ∙ ap (λ q. (m == start + n) || q) rest
    by_place false is =
        rest ∙ sym (ap (λ p. p || b) (early start n m some (λ above. let low : m ≤ start = ltb-false start m is in let high : start < m = above in absurd (omega arith))))

-- a number from the start on is among them exactly where a call of that number failed by the list
pub numbers_are : (start n : ℕ) (fs : List Failure) → 1 ≤ n → is_number n (numbers_since start (failed_by is_by_list fs)) ≡ among (start + n) fs
numbers_are start n [] some = refl
numbers_are start n (f ∷ fs) some = with_cause (is_by_list f.cause) start n f.number (failed_by is_by_list fs) (among (start + n) fs) some (numbers_are start n fs some)

-- IN TWO PARTS
pub among_both : (n : ℕ) (fs gs : List Failure) → among n (fs ++ gs) ≡ (among n fs || among n gs)
among_both n [] gs = refl
among_both n (f ∷ fs) gs = ap (λ b. is_listed_call n f || b) (among_both n fs gs) ∙ or_assoc (is_listed_call n f) (among n fs) (among n gs)
  where
    or_assoc : (a b c : Bool) → (a || (b || c)) ≡ ((a || b) || c)
    or_assoc true b c = refl
    or_assoc false b c = refl

not_this : (n : ℕ) (f : Failure) → (f.number ≡ n → ⊥) → is_listed_call n f ≡ false
not_this n f differ = ap (λ b. is_by_list f.cause && b) (unequal f.number n differ) ∙ and_false (is_by_list f.cause)
  where
    and_false : (b : Bool) → (b && false) ≡ false
    and_false true = refl
    and_false false = refl

-- none has a number that is too high or too low
pub none_within : (n m : ℕ) (fs : List Failure) → AreWithin n fs → n < m → among m fs ≡ false
none_within n m [] within above = refl
none_within n m (f ∷ fs) within above =
    ap (λ b. b || among m fs) (not_this m f (λ e. let is : f.number ≡ m = e in let low : f.number ≤ n = within.0 in absurd (omega arith))) ∙ none_within n m fs within.1 above

pub none_above : (n m : ℕ) (fs : List Failure) → AreAbove n fs → m ≤ n → among m fs ≡ false
none_above n m [] above low = refl
none_above n m (f ∷ fs) above low =
    ap (λ b. b || among m fs) (not_this m f (λ e. let is : f.number ≡ m = e in let high : n < f.number = above.0 in absurd (omega arith))) ∙ none_above n m fs above.1 low

pub within_more : (n m : ℕ) (fs : List Failure) → AreWithin n fs → n ≤ m → AreWithin m fs
within_more n m [] within low = tt
within_more n m (f ∷ fs) within low = (let small : f.number ≤ n = within.0 in let e : f.number ≤ m = omega arith in e, within_more n m fs within.1 low)

pub above_less : (n m : ℕ) (fs : List Failure) → AreAbove m fs → n ≤ m → AreAbove n fs
above_less n m [] above low = tt
above_less n m (f ∷ fs) above low = (let high : m < f.number = above.0 in let e : n < f.number = omega arith in e, above_less n m fs above.1 low)

pub within_last : (n : ℕ) (fs : List Failure) (f : Failure) → AreWithin n fs → f.number ≤ n → AreWithin n (fs ++ f ∷ [])
within_last n [] f within last = (last, tt)
within_last n (g ∷ gs) f within last = (within.0, within_last n gs f within.1 last)
