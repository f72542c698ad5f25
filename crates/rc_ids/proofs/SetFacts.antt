-- Marks and their rising lists.
use Rattle.std.proofs.Common.{◌≡◌, ℕ, zero, suc, ◌+◌, ◌<◌, ◌≤◌, Bool, true, false, cond, List, [], ◌∷◌, length, refl, sym, ap, arith, get_or, set, replicate}
use Rattle.std.specs.Prelude.{nat_eq, count_by}
use Rattle.std.specs.Ordering.{nat_cmp, is_eq}
use Rattle.std.specs.Cmp.{nat_cmp_is}
use Rattle.std.specs.Cmp.Lexicographic.{pointwise}
use Rattle.std.specs.BTreeSet.{insert_key}
use mathlib.Core.Bool.{beq}
use Rattle.rc_ids.specs.Tables.{member, added}
use Rattle.rc_ids.specs.Sets.{marked, IsRisingWithin}
use Rattle.std.specs.declared.cmp.Ordering.TheVariants.{Less, Equal, Greater}
use Rattle.std.proofs.lemmas.List.Sums.{sum_by-cons}
use Rattle.rc_ids.specs.Marks.{apart, below_absent}

equal : (a b : ℕ) → a ≡ b → is_eq (nat_cmp a b) ≡ true
equal a b e = grind arith

cmp_less : (a b : ℕ) → a < b → nat_cmp a b ≡ Less
cmp_less a b lt = sym (nat_cmp_is a b Less lt)

cmp_equal : (a b : ℕ) → a ≡ b → nat_cmp a b ≡ Equal
cmp_equal a b e = sym (nat_cmp_is a b Equal e)

cmp_greater : (a b : ℕ) → b < a → nat_cmp a b ≡ Greater
cmp_greater a b gt = sym (nat_cmp_is a b Greater gt)

-- a place is marked exactly where its number is a member
pub member-marked : (n place k : ℕ) (marks : List Bool) (other : Bool) → place < length marks → k ≡ n + place
    → member nat_cmp (marked n marks) k ≡ get_or marks place other
member-marked n place k [] other lt e = absurd (omega arith)
member-marked n zero k (true ∷ marks) other lt e = rw (equal k n (omega arith)) refl
member-marked n zero k (false ∷ marks) other lt e = below_absent k (suc n) marks (omega arith)
member-marked n (suc place) k (true ∷ marks) other lt e =
    rw (apart k n (omega arith)) (member-marked (suc n) place k marks other (omega arith) (omega arith))
member-marked n (suc place) k (false ∷ marks) other lt e =
    member-marked (suc n) place k marks other (omega arith) (omega arith)

-- a smaller number goes first
insert_first : (k n : ℕ) (marks : List Bool) → k < n → insert_key nat_cmp (marked n marks) k ≡ k ∷ marked n marks
insert_first k n [] lt = refl
insert_first k n (true ∷ marks) lt = rw (cmp_less k n lt) refl
insert_first k n (false ∷ marks) lt = insert_first k (suc n) marks (omega arith)

-- a mark more is a member more
pub marked-set : (n place k : ℕ) (marks : List Bool) → place < length marks → k ≡ n + place
    → marked n (set marks place true) ≡ added nat_cmp (marked n marks) k
marked-set n place k [] lt e = absurd (omega arith)
marked-set n zero k (true ∷ marks) lt e = rw (cmp_equal k n (omega arith)) refl
marked-set n zero k (false ∷ marks) lt e =
    let same : k ≡ n = omega arith in
    rw (insert_first k (suc n) marks (omega arith)) (ap (λ (m : ℕ). m ∷ marked (suc n) marks) (sym same))
marked-set n (suc place) k (true ∷ marks) lt e =
    rw (cmp_greater k n (omega arith)) (ap (λ r. n ∷ r) (marked-set (suc n) place k marks (omega arith) (omega arith)))
marked-set n (suc place) k (false ∷ marks) lt e =
    marked-set (suc n) place k marks (omega arith) (omega arith)

-- the marked numbers rise
pub marked-rises : (n : ℕ) (marks : List Bool) (low high : ℕ) → low ≤ n → n + length marks ≤ suc high → IsRisingWithin low high (marked n marks)
marked-rises n [] low high le fits = tt
marked-rises n (true ∷ marks) low high le fits = (le, omega arith, marked-rises (suc n) marks (suc n) high (omega arith) (omega arith))
marked-rises n (false ∷ marks) low high le fits = marked-rises (suc n) marks low high (omega arith) (omega arith)

-- how many are marked
pub length-marked : (n : ℕ) (marks : List Bool) → length (marked n marks) ≡ count_by (λ m. m) marks
length-marked n [] = refl
length-marked n (true ∷ marks) = omega (arith, length-marked (suc n) marks, sum_by-cons (λ (m : Bool). cond m 1 0) true marks)
length-marked n (false ∷ marks) = omega (arith, length-marked (suc n) marks, sum_by-cons (λ (m : Bool). cond m 1 0) false marks)

-- nothing is marked at first
pub marked-none : (n count : ℕ) → marked n (replicate count false) ≡ []
marked-none n zero = refl
marked-none n (suc count) = marked-none (suc n) count

-- two sets are the same list exactly where the marks are the same
different_first : (n : ℕ) (marks : List Bool) (xs : List ℕ) → pointwise nat_eq (n ∷ xs) (marked (suc n) marks) ≡ false
different_first n [] xs = refl
different_first n (true ∷ marks) xs = let e : nat_eq n (suc n) ≡ false = grind arith in rw e refl
different_first n (false ∷ marks) xs = later n (suc n) marks xs (omega arith)
  where
    later : (n m : ℕ) (marks : List Bool) (xs : List ℕ) → n < suc m → pointwise nat_eq (n ∷ xs) (marked (suc m) marks) ≡ false
    later n m [] xs lt = refl
    later n m (true ∷ marks) xs lt = let e : nat_eq n (suc m) ≡ false = grind arith in rw e refl
    later n m (false ∷ marks) xs lt = later n (suc m) marks xs (omega arith)

different_second : (n : ℕ) (marks : List Bool) (xs : List ℕ) → pointwise nat_eq (marked (suc n) marks) (n ∷ xs) ≡ false
different_second n [] xs = refl
different_second n (true ∷ marks) xs = let e : nat_eq (suc n) n ≡ false = grind arith in rw e refl
different_second n (false ∷ marks) xs = later n (suc n) marks xs (omega arith)
  where
    later : (n m : ℕ) (marks : List Bool) (xs : List ℕ) → n < suc m → pointwise nat_eq (marked (suc m) marks) (n ∷ xs) ≡ false
    later n m [] xs lt = refl
    later n m (true ∷ marks) xs lt = let e : nat_eq (suc m) n ≡ false = grind arith in rw e refl
    later n m (false ∷ marks) xs lt = later n (suc m) marks xs (omega arith)

pub same_marked : (n : ℕ) (xs ys : List Bool) → length xs ≡ length ys
    → pointwise beq xs ys ≡ pointwise nat_eq (marked n xs) (marked n ys)
same_marked n [] [] long = refl
same_marked n [] (y ∷ ys) long = absurd (omega arith)
same_marked n (x ∷ xs) [] long = absurd (omega arith)
same_marked n (true ∷ xs) (true ∷ ys) long =
    let e : nat_eq n n ≡ true = grind arith in rw e (same_marked (suc n) xs ys (omega arith))
same_marked n (true ∷ xs) (false ∷ ys) long = sym (different_first n ys (marked (suc n) xs))
same_marked n (false ∷ xs) (true ∷ ys) long = sym (different_second n xs (marked (suc n) ys))
same_marked n (false ∷ xs) (false ∷ ys) long = same_marked (suc n) xs ys (omega arith)
