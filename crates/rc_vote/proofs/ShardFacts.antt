-- Rising lists of small numbers, number by number.
use Rattle.std.proofs.Common.{◌≡◌, ℕ, zero, suc, ◌+◌, ◌-◌, ◌<◌, ◌≤◌, ◌==◌, Bool, true, false, cond, not, ◌&&◌, ◌||◌, List, [], ◌∷◌, ◌++◌, length, filter, refl, sym, ap, subst, ◌∙◌, add-one, arith}
use Rattle.std.specs.declared.cmp.Ordering.TheVariants.{Greater}
use Rattle.std.specs.Ordering.{nat_cmp, is_eq}
use Rattle.std.specs.Cmp.{nat_cmp_is}
use Rattle.std.specs.List.{list_all, AllByRecursion}
use Rattle.std.specs.BTreeSet.{insert_key}
use Rattle.std.proofs.lemmas.List.{append-nil}
use Rattle.std.proofs.lemmas.List.Elements.{filter-append}
use Rattle.std.proofs.lemmas.List.Folds.{list_any-append}
use Rattle.std.proofs.lemmas.Map.Views.{any-filter_same}
use Rattle.rc_ids.specs.Tables.{member, added, up_to}
use Rattle.rc_ids.specs.Sets.{IsRisingWithin}
use Rattle.rc_ids.specs.Marks.{apart}

-- so many numbers from the lowest on
from_low : ℕ → ℕ → List ℕ
from_low low zero = []
from_low low (suc count) = low ∷ from_low (suc low) count

equal : (a b : ℕ) → a ≡ b → is_eq (nat_cmp a b) ≡ true
equal a b e = grind arith

tie : (a b : ℕ) → is_eq (nat_cmp a b) ≡ true → a ≡ b
tie a b e = grind arith

or_true : (b : Bool) → (b || true) ≡ true
or_true true = refl
or_true false = refl

and_true : (b : Bool) → (b && true) ≡ b
and_true true = refl
and_true false = refl

-- a smaller member is none of the numbers from the lowest on
past : (p : ℕ → Bool) (x : ℕ) (xs : List ℕ) (low count : ℕ) → x < low
    → filter (λ s. member nat_cmp (x ∷ xs) s && p s) (from_low low count) ≡ filter (λ s. member nat_cmp xs s && p s) (from_low low count)
unfolding from_low
past p x xs low zero lt = refl
past p x xs low (suc count) lt =
    rw (apart low x (omega arith))
    (ap (λ rest. cond (member nat_cmp xs low && p low) (low ∷ rest) rest) (past p x xs (suc low) count (omega arith)))

-- what is below the lowest is no member
below : (k low high : ℕ) (xs : List ℕ) → k < low → IsRisingWithin low high xs → member nat_cmp xs k ≡ false
below k low high [] lt rising = refl
below k low high (x ∷ xs) lt rising = rw (apart k x (omega arith)) (below k (suc x) high xs (omega arith) rising.2)

-- the first member, where it is the lowest number, and where it is above it
first : (p : ℕ → Bool) (low count high x : ℕ) (xs : List ℕ) → low ≤ x → x ≤ high → IsRisingWithin (suc x) high xs
    → ((ys : List ℕ) → IsRisingWithin (suc low) high ys → filter (λ s. member nat_cmp ys s && p s) (from_low (suc low) count) ≡ filter p ys)
    → filter (λ s. member nat_cmp (x ∷ xs) s && p s) (from_low low (suc count)) ≡ filter p (x ∷ xs)
unfolding from_low
first p low count high x xs le fits rising rest =
    by (x - low) refl
  where
    by : (above : ℕ) → above ≡ x - low
        → cond (member nat_cmp (x ∷ xs) low && p low) (low ∷ filter (λ s. member nat_cmp (x ∷ xs) s && p s) (from_low (suc low) count)) (filter (λ s. member nat_cmp (x ∷ xs) s && p s) (from_low (suc low) count))
        ≡ filter p (x ∷ xs)
    by zero is =
        let same : low ≡ x = omega arith in
        let P : ℕ → Type 0 = λ n. IsRisingWithin (suc n) high xs in
        rw (equal low x same)
        (ap (λ ys. cond (p low) (low ∷ ys) ys) (past p x xs (suc low) count (omega arith) ∙ rest xs (subst P (sym same) rising))
        ∙ ap (λ (n : ℕ). cond (p n) (n ∷ filter p xs) (filter p xs)) same)
    by (suc above) is =
        let later : IsRisingWithin (suc low) high (x ∷ xs) = (omega arith, fits, rising) in
        rw (below low (suc low) high (x ∷ xs) (omega arith) later) (rest (x ∷ xs) later)

-- the members that pass are the numbers of the range that are members and pass
chosen : (p : ℕ → Bool) (low count high : ℕ) (xs : List ℕ) → low + count ≡ suc high → IsRisingWithin low high xs
    → filter (λ s. member nat_cmp xs s && p s) (from_low low count) ≡ filter p xs
unfolding from_low
chosen p low zero high [] whole rising = refl
chosen p low zero high (x ∷ xs) whole rising = absurd (omega arith)
chosen p low (suc count) high [] whole rising = chosen p (suc low) count high [] (omega arith) tt
chosen p low (suc count) high (x ∷ xs) whole rising =
    first p low count high x xs rising.0 rising.1 rising.2 (λ ys r. chosen p (suc low) count high ys (omega arith) r)

pub chosen_shards : (p : ℕ → Bool) (xs : List ℕ) → IsRisingWithin 1 8 xs → filter (λ s. member nat_cmp xs s && p s) (up_to 8) ≡ filter p xs
unfolding from_low
chosen_shards p xs rising = chosen p 1 8 8 xs refl rising

-- A LARGER NUMBER GOES LAST
greater : (a b : ℕ) → b < a → nat_cmp a b ≡ Greater
greater a b gt = sym (nat_cmp_is a b Greater gt)

last : (k : ℕ) (xs : List ℕ) → AllByRecursion (λ x. x < k) xs → insert_key nat_cmp xs k ≡ xs ++ k ∷ []
last k [] all = refl
last k (x ∷ xs) all = rw (greater k x all.0) (ap (λ ys. x ∷ ys) (last k xs all.1))

all-filter : (k : ℕ) (p : ℕ → Bool) (xs : List ℕ) → AllByRecursion (λ x. x < k) xs → AllByRecursion (λ x. x < k) (filter p xs)
all-filter k p [] all = tt
all-filter k p (x ∷ xs) all =
    kept (p x) (all-filter k p xs all.1)
  where
    kept : (b : Bool) → AllByRecursion (λ x. x < k) (filter p xs) → AllByRecursion (λ x. x < k) (cond b (x ∷ filter p xs) (filter p xs))
    kept true rest = (all.0, rest)
    kept false rest = rest

all-append : (k y : ℕ) (xs : List ℕ) → AllByRecursion (λ x. x < k) xs → y < k → AllByRecursion (λ x. x < k) (xs ++ y ∷ [])
all-append k y [] all lt = (lt, tt)
all-append k y (x ∷ xs) all lt = (all.0, all-append k y xs all.1 lt)

all-up_to : (k n : ℕ) → n < k → AllByRecursion (λ x. x < k) (up_to n)
all-up_to k zero lt = tt
all-up_to k (suc n) lt = all-append k (suc n) (up_to n) (all-up_to k n (omega arith)) lt

-- the next number joins those that pass, if it passes
pub passing_more : (p : ℕ → Bool) (n : ℕ)
    → filter p (up_to (n + 1)) ≡ cond (p (n + 1)) (added nat_cmp (filter p (up_to n)) (n + 1)) (filter p (up_to n))
passing_more p n =
    rw add-one (filter-append p (up_to n) (suc n ∷ []) ∙ next (p (suc n)))
  where
    next : (b : Bool) → filter p (up_to n) ++ cond b (suc n ∷ []) [] ≡ cond b (insert_key nat_cmp (filter p (up_to n)) (suc n)) (filter p (up_to n))
    next true = sym (last (suc n) (filter p (up_to n)) (all-filter (suc n) p (up_to n) (all-up_to (suc n) n (omega arith))))
    next false = append-nil (filter p (up_to n))

-- NOTHING IS LEFT
pub none_left : (m : ℕ → Bool) (xs : List ℕ) → (length (filter (λ s. not (m s)) xs) == 0) ≡ list_all m xs
none_left m [] = refl
none_left m (x ∷ xs) =
    by (m x) (none_left m xs)
  where
    by : (b : Bool) → (length (filter (λ s. not (m s)) xs) == 0) ≡ list_all m xs
        → (length (cond (not b) (x ∷ filter (λ s. not (m s)) xs) (filter (λ s. not (m s)) xs)) == 0) ≡ (b && list_all m xs)
    by true rest = rest
    by false rest = grind arith

-- NUMBERS OF A RANGE
member-up_to : (n k : ℕ) → 1 ≤ k → k ≤ n → member nat_cmp (up_to n) k ≡ true
member-up_to zero k low high = absurd (omega arith)
member-up_to (suc n) k low high =
    list_any-append (λ x. is_eq (nat_cmp k x)) (up_to n) (suc n ∷ []) ∙ by (n + 1 - k) refl (λ le. member-up_to n k low le)
  where
    by : (less : ℕ) → less ≡ n + 1 - k → (k ≤ n → member nat_cmp (up_to n) k ≡ true)
        → (member nat_cmp (up_to n) k || member nat_cmp (suc n ∷ []) k) ≡ true
    by zero is before = let here : k ≡ suc n = omega arith in rw (equal k (suc n) here) (or_true (member nat_cmp (up_to n) k))
    by (suc less) is before = rw (before (omega arith)) refl

and_swap : (a b : Bool) → (a && b) ≡ (b && a)
and_swap true b = sym (and_true b)
and_swap false true = refl
and_swap false false = refl

-- a member of those that pass is a member that passes
pub member-filter : (p : ℕ → Bool) (xs : List ℕ) (k : ℕ) → member nat_cmp (filter p xs) k ≡ (member nat_cmp xs k && p k)
member-filter p xs k =
    any-filter_same (λ x. is_eq (nat_cmp k x)) p (p k) (λ x is. ap p (sym (tie k x is))) xs ∙ and_swap (p k) (member nat_cmp xs k)

-- of those numbers of a range that pass, a number of the range is a member exactly where it passes
pub member-passing : (p : ℕ → Bool) (n k : ℕ) → 1 ≤ k → k ≤ n → member nat_cmp (filter p (up_to n)) k ≡ p k
member-passing p n k low high =
    member-filter p (up_to n) k ∙ ap (λ b. b && p k) (member-up_to n k low high)

-- the next number joins what is left, if it passes
pub left_more : (p : ℕ → Bool) (n : ℕ) (old new : List ℕ) (b : Bool) → new ≡ cond b (added nat_cmp old (n + 1)) old → b ≡ p (n + 1)
    → old ≡ filter p (up_to n) → new ≡ filter p (up_to (n + 1))
left_more p n old new b is joins before =
    is ∙ ap (λ b. cond b (added nat_cmp old (n + 1)) old) joins ∙ ap (λ xs. cond (p (n + 1)) (added nat_cmp xs (n + 1)) xs) before ∙ sym (passing_more p n)
