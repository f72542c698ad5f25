-- Tables and the list of outcomes.
use Rattle.std.proofs.Common.{◌≡◌, ℕ, zero, suc, ◌+◌, ◌<◌, Bool, true, false, cond, List, [], ◌∷◌, ◌++◌, drop, slice_get, Option, None, Some, refl, sym, ap, ◌∙◌, add-one, arith, nat_eq}
use Rattle.std.specs.declared.cmp.Ordering.TheVariants.{Less, Equal, Greater}
use Rattle.std.specs.declared.cmp.Ordering.{Ordering}
use Rattle.std.specs.Ordering.{nat_cmp, is_eq, match_ordering}
use Rattle.std.specs.List.{AllByRecursion}
use Rattle.std.specs.List.Sorted.{IsStrictlySortedBy}
use Rattle.std.specs.Map.{lookup, set_value, keys_of}
use Rattle.std.specs.BTreeMap.{insert_entry, is_at}
use Rattle.indexmap.specs.IndexMap.{insert_entry as in_order}

-- a key is tested by equality as by order
pub same_test : (t k : ℕ) → nat_eq t k ≡ is_eq (nat_cmp t k)
same_test t k = grind arith

above : (t k l : ℕ) → nat_cmp t k ≡ Less → nat_cmp k l ≡ Less → is_eq (nat_cmp t l) ≡ false
above t k l p q = grind arith

-- a key below all is not found
none_above : {X : Type 0} (t k : ℕ) (es : List (ℕ × X)) → nat_cmp t k ≡ Less → AllByRecursion (λ l. nat_cmp k l ≡ Less) (keys_of es)
    → lookup (is_at (nat_cmp t)) es ≡ None
none_above t k [] low all = refl
none_above t k (e ∷ es) low all = rw (above t k e.0 low all.0) (none_above t k es low all.1)

-- where a key is found, putting a value there writes it there
pub put-found : {X : Type 0} (m : List (ℕ × X)) (t : ℕ) (x w : X) → IsStrictlySortedBy nat_cmp (keys_of m)
    → lookup (is_at (nat_cmp t)) m ≡ Some w → set_value (is_at (nat_cmp t)) m x ≡ insert_entry nat_cmp m t x
unfolding IsStrictlySortedBy
put-found [] t x w sorted there = cc
put-found (e ∷ es) t x w sorted there =
    at (nat_cmp t e.0) refl there (put-found es t x w sorted.1)
  where
    at : (r : Ordering) → nat_cmp t e.0 ≡ r → cond (is_eq r) (Some e.1) (lookup (is_at (nat_cmp t)) es) ≡ Some w
        → (lookup (is_at (nat_cmp t)) es ≡ Some w → set_value (is_at (nat_cmp t)) es x ≡ insert_entry nat_cmp es t x)
        → cond (is_eq r) ((e.0, x) ∷ es) (e ∷ set_value (is_at (nat_cmp t)) es x)
        ≡ match_ordering r ((t, x) ∷ e ∷ es) ((e.0, x) ∷ es) (e ∷ insert_entry nat_cmp es t x)
    at Less is found rest = let none = none_above t e.0 es is sorted.0 in cc
    at Equal is found rest = refl
    at Greater is found rest = ap (λ xs. e ∷ xs) (rest found)

-- the list from a place on
pub drop_suc : {X : Type 0} (xs : List X) (i : ℕ) (x : X) → slice_get xs i ≡ Some x → drop i xs ≡ x ∷ drop (suc i) xs
drop_suc [] i x at = cc
drop_suc (y ∷ ys) zero x at = cc
drop_suc (y ∷ ys) (suc i) x at = drop_suc ys i x at

pub drop_step : {X : Type 0} (xs : List X) (i : ℕ) (x : X) → slice_get xs i ≡ Some x → drop i xs ≡ x ∷ drop (i + 1) xs
drop_step xs i x at = rw add-one (drop_suc xs i x at)

-- a key that is not found goes last
pub new_last : {X : Type 0} (es : List (ℕ × X)) (t : ℕ) (x : X) → lookup (is_at (nat_cmp t)) es ≡ None → in_order nat_eq es t x ≡ es ++ (t, x) ∷ []
new_last [] t x none = refl
new_last (e ∷ es) t x none = rw (same_test t e.0) (at (is_eq (nat_cmp t e.0)) none (new_last es t x))
  where
    at : (b : Bool) → cond b (Some e.1) (lookup (is_at (nat_cmp t)) es) ≡ None
        → (lookup (is_at (nat_cmp t)) es ≡ None → in_order nat_eq es t x ≡ es ++ (t, x) ∷ [])
        → cond b ((e.0, x) ∷ es) (e ∷ in_order nat_eq es t x) ≡ e ∷ (es ++ (t, x) ∷ [])
    at true found rest = cc
    at false found rest = ap (λ xs. e ∷ xs) (rest found)
