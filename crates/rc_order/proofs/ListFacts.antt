-- Members of rising lists, weights, and lists cut in two.
use Rattle.std.proofs.Common.{◌≡◌, ℕ, zero, suc, ◌+◌, ◌≤◌, ◌≢◌, Bool, true, false, ◌||◌, cond, List, [], ◌∷◌, ◌++◌, length, take, drop, refl, sym, ap, ◌∙◌, arith, Some, nat_eq}
use Rattle.std.specs.Prelude.{slice_get, slice_set, if◌then◌else◌}
use Rattle.std.specs.declared.cmp.Ordering.{Ordering}
use Rattle.std.specs.declared.cmp.Ordering.TheVariants.{Less, Equal, Greater}
use Rattle.std.specs.Ordering.{nat_cmp, is_eq, match_ordering}
use Rattle.std.specs.BTreeSet.{insert_key}
use Rattle.std.proofs.lemmas.Cmp.{nat_cmp_total, alike_right}
use Rattle.std.proofs.lemmas.List.{take-append-drop, drop-append-le, take_all}
use Rattle.std.proofs.Math.Seq.{drop-length}
use Rattle.std.proofs.lemmas.List.Folds.{list_any-append}
use Rattle.rc_ids.specs.Tables.{member, added}
use Rattle.rc_ids.specs.Cluster.{weight_from}
use Rattle.rc_order.specs.Orders.{has_listed}

twice : (a b : Bool) → (a || (a || b)) ≡ (a || b)
twice true b = refl
twice false b = refl

exchanged : (a b r : Bool) → (a || (b || r)) ≡ (b || (a || r))
exchanged true true r = refl
exchanged true false r = refl
exchanged false true r = refl
exchanged false false r = refl

-- one more member
pub member-added : (xs : List ℕ) (k q : ℕ) → member nat_cmp (added nat_cmp xs k) q ≡ (is_eq (nat_cmp q k) || member nat_cmp xs q)
member-added [] k q = refl
member-added (x ∷ xs) k q = placed (nat_cmp k x) refl (member-added xs k q)
  where
    placed : (r : Ordering) → nat_cmp k x ≡ r → member nat_cmp (insert_key nat_cmp xs k) q ≡ (is_eq (nat_cmp q k) || member nat_cmp xs q)
        → member nat_cmp (match_ordering r (k ∷ x ∷ xs) (x ∷ xs) (x ∷ insert_key nat_cmp xs k)) q ≡ (is_eq (nat_cmp q k) || (is_eq (nat_cmp q x) || member nat_cmp xs q))
    placed Less is rest = refl
    placed Equal is rest =
        let same : is_eq (nat_cmp q k) ≡ is_eq (nat_cmp q x) = ap is_eq (alike_right nat_cmp_total k x q is) in
        sym (twice (is_eq (nat_cmp q x)) (member nat_cmp xs q)) ∙ ap (λ b. b || (is_eq (nat_cmp q x) || member nat_cmp xs q)) (sym same)
    placed Greater is rest =
        ap (λ b. is_eq (nat_cmp q x) || b) rest ∙ exchanged (is_eq (nat_cmp q x)) (is_eq (nat_cmp q k)) (member nat_cmp xs q)

-- sets with the same members weigh the same
pub weight_same : (d : ℕ) (ws p q : List ℕ) → ((e : ℕ) → member nat_cmp p e ≡ member nat_cmp q e) → weight_from d ws p ≡ weight_from d ws q
weight_same d [] p q same = refl
weight_same d (w ∷ ws) p q same =
    ap (λ b. cond b w 0 + weight_from (suc d) ws p) (same d)
    ∙ ap (λ (n : ℕ). cond (member nat_cmp q d) w 0 + n) (weight_same (suc d) ws p q same)

-- A PLACE OF A LIST, WRITTEN
pub get_written : {X : Type 0} (xs : List X) (i : ℕ) (x y : X) → slice_get xs i ≡ Some x → slice_get (slice_set xs i y) i ≡ Some y
get_written [] i x y was = absurd cc
get_written (z ∷ xs) zero x y was = refl
get_written (z ∷ xs) (suc i) x y was = get_written xs i x y was

pub get_unwritten : {X : Type 0} (xs : List X) (i j : ℕ) (y : X) → j ≢ i → slice_get (slice_set xs i y) j ≡ slice_get xs j
get_unwritten [] i j y other = refl
get_unwritten (z ∷ xs) zero zero y other = absurd (other refl)
get_unwritten (z ∷ xs) zero (suc j) y other = refl
get_unwritten (z ∷ xs) (suc i) zero y other = refl
get_unwritten (z ∷ xs) (suc i) (suc j) y other = get_unwritten xs i j y (λ e. other (ap suc e))

-- A LIST, CUT IN TWO
listed_in : (n : ℕ) (xs : List ℕ) (t : ℕ) → has_listed xs t ≡ (has_listed (take n xs) t || has_listed (drop n xs) t)
listed_in n xs t = ap (λ (ys : List ℕ). has_listed ys t) (sym (take-append-drop n xs)) ∙ list_any-append (nat_eq t) (take n xs) (drop n xs)

-- what is put behind is behind the second part, unless it is there
pub put_behind : (n : ℕ) (xs : List ℕ) (t : ℕ) → n ≤ length xs
    → drop n (if has_listed xs t then xs else xs ++ t ∷ [])
    ≡ (if has_listed (take n xs) t || has_listed (drop n xs) t then drop n xs else drop n xs ++ t ∷ [])
put_behind n xs t few = go (has_listed xs t) ∙ ap (λ b. if b then drop n xs else drop n xs ++ t ∷ []) (listed_in n xs t)
  where
    go : (b : Bool) → drop n (if b then xs else xs ++ t ∷ []) ≡ (if b then drop n xs else drop n xs ++ t ∷ [])
    go true = refl
    go false = drop-append-le n xs (t ∷ []) few

-- cut at its end, all is in the first part
pub all_taken : (n m : ℕ) (xs : List ℕ) → m ≡ length xs → take m xs ≡ take n xs ++ drop n xs
all_taken n m xs end = take_all m xs (omega arith) ∙ sym (take-append-drop n xs)

pub none_dropped : (m : ℕ) (xs : List ℕ) → m ≡ length xs → drop m xs ≡ []
none_dropped m xs end = ap (λ (k : ℕ). drop k xs) end ∙ drop-length xs
