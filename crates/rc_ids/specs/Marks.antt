-- The marks of a set stand for its rising list, and are got back from it.
use Rattle.std.proofs.Common.{◌≡◌, ◌≢◌, ℕ, zero, suc, ◌<◌, Bool, true, false, List, [], ◌∷◌, length, refl, ◌∙◌, ap, subst, arith}
use Rattle.std.specs.Ordering.{nat_cmp, is_eq}
use Rattle.rc_ids.specs.Tables.{member}
use Rattle.rc_ids.specs.Sets.{marked, marks_of}

-- a number is not equal to a larger one
pub apart : (a b : ℕ) → (a ≢ b) → is_eq (nat_cmp a b) ≡ false
apart a b ne = grind arith

pub tied : (a : ℕ) → is_eq (nat_cmp a a) ≡ true
tied a = grind arith

-- what is marked from n on does not have a smaller number
pub below_absent : (k n : ℕ) (marks : List Bool) → k < n → member nat_cmp (marked n marks) k ≡ false
below_absent k n [] lt = refl
below_absent k n (true ∷ marks) lt = grind (arith, apart k n, below_absent k (suc n) marks)
below_absent k n (false ∷ marks) lt = below_absent k (suc n) marks (omega arith)

-- a smaller number does not change later marks
marks_past : (n count k : ℕ) (xs : List ℕ) → k < n → marks_of n count (k ∷ xs) ≡ marks_of n count xs
marks_past n zero k xs lt = refl
marks_past n (suc count) k xs lt = rw (apart n k (omega arith)) (ap (λ r. member nat_cmp xs n ∷ r) (marks_past (suc n) count k xs (omega arith)))

-- the marks are those of what is marked
pub marks_of-marked : (n : ℕ) (marks : List Bool) → marks_of n (length marks) (marked n marks) ≡ marks
marks_of-marked n [] = refl
marks_of-marked n (true ∷ marks) =
    rw (tied n) (ap (λ r. true ∷ r) (marks_past (suc n) (length marks) n (marked (suc n) marks) (omega arith) ∙ marks_of-marked (suc n) marks))
marks_of-marked n (false ∷ marks) =
    rw (below_absent n (suc n) marks (omega arith)) (ap (λ r. false ∷ r) (marks_of-marked (suc n) marks))

-- the marks of a set of datacentres, and of a set of shards
pub seven_marks : (marks : List Bool) → length marks ≡ 7 → marks_of 1 7 (marked 1 marks) ≡ marks
seven_marks marks is = subst (λ (k : ℕ). marks_of 1 k (marked 1 marks) ≡ marks) is (marks_of-marked 1 marks)

pub eight_marks : (marks : List Bool) → length marks ≡ 8 → marks_of 1 8 (marked 1 marks) ≡ marks
eight_marks marks is = subst (λ (k : ℕ). marks_of 1 k (marked 1 marks) ≡ marks) is (marks_of-marked 1 marks)
