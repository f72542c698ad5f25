-- Numbers from 1 on that pass.
use Rattle.std.proofs.Common.{◌≡◌, ℕ, zero, suc, ◌+◌, ◌<◌, Bool, true, false, cond, ◌&&◌, List, [], ◌∷◌, ◌++◌, filter, refl, sym, ap, ◌∙◌, add-one, arith}
use Rattle.std.specs.Prelude.{nat_le}
use Rattle.std.specs.declared.cmp.Ordering.TheVariants.{Greater}
use Rattle.std.specs.Ordering.{nat_cmp}
use Rattle.std.specs.Cmp.{nat_cmp_is}
use Rattle.std.specs.List.{AllByRecursion}
use Rattle.std.specs.BTreeSet.{insert_key}
use Rattle.std.proofs.lemmas.List.{append-nil}
use Rattle.std.proofs.lemmas.List.Elements.{filter-append}
use Rattle.rc_ids.specs.Tables.{added, up_to}

greater : (a b : ℕ) → b < a → nat_cmp a b ≡ Greater
greater a b gt = sym (nat_cmp_is a b Greater gt)

-- a larger number goes last
last : (k : ℕ) (xs : List ℕ) → AllByRecursion (λ x. x < k) xs → insert_key nat_cmp xs k ≡ xs ++ k ∷ []
last k [] all = refl
last k (x ∷ xs) all = rw (greater k x all.0) (ap (λ ys. x ∷ ys) (last k xs all.1))

all-filter : (k : ℕ) (p : ℕ → Bool) (xs : List ℕ) → AllByRecursion (λ x. x < k) xs → AllByRecursion (λ x. x < k) (filter p xs)
all-filter k p [] all = tt
all-filter k p (x ∷ xs) all =
    kept (p x) (all-filter k p xs all.1)
  where
    kept : (b : Bool) → AllByRecursion (λ x. x < k) (filter p xs) → AllByRecursion (λ x. x < k) (cond b (x ∷ filter p xs) (filter p xs))
    kept true rest = (all.0, rest)
    kept false rest = rest

all-append : (k y : ℕ) (xs : List ℕ) → AllByRecursion (λ x. x < k) xs → y < k → AllByRecursion (λ x. x < k) (xs ++ y ∷ [])
all-append k y [] all lt = (lt, tt)
all-append k y (x ∷ xs) all lt = (all.0, all-append k y xs all.1 lt)

all-up_to : (k n : ℕ) → n < k → AllByRecursion (λ x. x < k) (up_to n)
all-up_to k zero lt = tt
all-up_to k (suc n) lt = all-append k (suc n) (up_to n) (all-up_to k n (omega arith)) lt

-- the next number joins those that pass, if it passes
passing_more : (p : ℕ → Bool) (n : ℕ)
    → filter p (up_to (n + 1)) ≡ cond (p (n + 1)) (added nat_cmp (filter p (up_to n)) (n + 1)) (filter p (up_to n))
passing_more p n =
    rw add-one (filter-append p (up_to n) (suc n ∷ []) ∙ next (p (suc n)))
  where
    next : (b : Bool) → filter p (up_to n) ++ cond b (suc n ∷ []) [] ≡ cond b (insert_key nat_cmp (filter p (up_to n)) (suc n)) (filter p (up_to n))
    next true = sym (last (suc n) (filter p (up_to n)) (all-filter (suc n) p (up_to n) (all-up_to (suc n) n (omega arith))))
    next false = append-nil (filter p (up_to n))

pub left_more : (p : ℕ → Bool) (n : ℕ) (old new : List ℕ) (b : Bool) → new ≡ cond b (added nat_cmp old (n + 1)) old → b ≡ p (n + 1)
    → old ≡ filter p (up_to n) → new ≡ filter p (up_to (n + 1))
left_more p n old new b is joins before =
    is ∙ ap (λ b. cond b (added nat_cmp old (n + 1)) old) joins ∙ ap (λ xs. cond (p (n + 1)) (added nat_cmp xs (n + 1)) xs) before ∙ sym (passing_more p n)

-- WITHIN A BOUND
within : (p : ℕ → Bool) (k : ℕ) (xs : List ℕ) → AllByRecursion (λ x. x < suc k) xs → filter (λ d. nat_le d k && p d) xs ≡ filter p xs
within p k [] all = refl
within p k (x ∷ xs) all =
    let le : nat_le x k ≡ true = grind (arith, all.0) in
    rw le (ap (λ ys. cond (p x) (x ∷ ys) ys) (within p k xs all.1))

-- those above the bound do not pass
pub bounded : (p : ℕ → Bool) (n k : ℕ) → filter (λ d. nat_le d n && p d) (up_to (k + n)) ≡ filter p (up_to n)
bounded p n zero =
    let all : 0 + n ≡ n = omega arith in
    ap (λ (m : ℕ). filter (λ d. nat_le d n && p d) (up_to m)) all ∙ within p n (up_to n) (all-up_to (suc n) n (omega arith))
bounded p n (suc k) =
    let next : suc k + n ≡ suc (k + n) = omega arith in
    let above : nat_le (suc (k + n)) n ≡ false = grind arith in
    ap (λ (m : ℕ). filter (λ d. nat_le d n && p d) (up_to m)) next
    ∙ filter-append (λ d. nat_le d n && p d) (up_to (k + n)) (suc (k + n) ∷ [])
    ∙ ap (λ b. filter (λ d. nat_le d n && p d) (up_to (k + n)) ++ cond (b && p (suc (k + n))) (suc (k + n) ∷ []) []) above
    ∙ append-nil (filter (λ d. nat_le d n && p d) (up_to (k + n))) ∙ bounded p n k
