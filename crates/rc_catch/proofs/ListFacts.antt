-- Lists of transactions that differ.
use Rattle.std.proofs.Common.{◌≡◌, ℕ, ◌≤◌, ◌<◌, ◌^◌, ◌==◌, Bool, true, false, ◌||◌, List, [], ◌∷◌, ◌++◌, length, None, nat_eq, refl, ap, ◌∙◌, arith}
use Rattle.std.specs.List.{AllByRecursion, IsDistinct, list_any}
use Rattle.std.specs.Map.{keys_of}
use Rattle.std.proofs.lemmas.Bool.{or_from}
use Rattle.std.proofs.lemmas.Cmp.{nat_eq_equiv}
use Rattle.std.proofs.lemmas.Map.Keys.{IsDistinct-head, IsDistinct-tail}
use Rattle.std.proofs.lemmas.Map.Steps.{length-le_from_distinct_below}
use Rattle.std.specs.Ordering.{nat_cmp}
use Rattle.indexmap.specs.IndexMap.{insert_entry as in_order}
use Rattle.rc_ids.specs.Tables.{found}
use Rattle.rc_record.proofs.Rest.{new_last}
use Rattle.rc_body.specs.declared.decision.Decision.{Decision}
use Rattle.rc_body.specs.Pages.{has_tx, TxsDiffer}
use Rattle.rc_catch.specs.Known.{Known, NameTxs}

-- one more
pub NameTxs-push : (es : List (ℕ × Decision)) (t : ℕ) (d : Decision) → NameTxs es → 1 ≤ t → t < 2 ^ 32 → NameTxs (es ++ (t, d) ∷ [])
NameTxs-push [] t d all low high = ((low, high), tt)
NameTxs-push (e ∷ es) t d all low high = (all.0, NameTxs-push es t d all.1 low high)

-- THEY ARE FEWER THAN THE NUMBERS OF FOUR BYTES
below : (es : List (ℕ × Decision)) (q : ℕ) → NameTxs es → list_any (nat_eq q) (keys_of es) ≡ true → q < 2 ^ 32
below [] q all there = cc
below (e ∷ es) q all there =
    by (nat_eq q e.0) refl there (below es q all.1)
  where
    by : (b : Bool) → nat_eq q e.0 ≡ b → (b || list_any (nat_eq q) (keys_of es)) ≡ true
        → (list_any (nat_eq q) (keys_of es) ≡ true → q < 2 ^ 32) → q < 2 ^ 32
    by true is here later = let same : q ≡ e.0 = grind arith in let high = all.0.1 in omega arith
    by false is here later = later here

-- 0 is none of them
not_zero : (es : List (ℕ × Decision)) → NameTxs es → AllByRecursion (λ k. nat_eq 0 k ≡ false) (keys_of es)
not_zero [] all = tt
not_zero (e ∷ es) all = (let low = all.0.0 in grind arith, not_zero es all.1)

length_keys : (es : List (ℕ × Decision)) → length (keys_of es) ≡ length es
length_keys [] = refl
length_keys (e ∷ es) = omega (arith, length_keys es)

pub fewer : (es : List (ℕ × Decision)) → NameTxs es → IsDistinct nat_eq (keys_of es) → length es < 2 ^ 32
unfolding IsDistinct
fewer es all distinct =
    let most : length (0 ∷ keys_of es) ≤ 2 ^ 32 =
    length-le_from_distinct_below (0 ∷ keys_of es) (2 ^ 32) (not_zero es all, distinct) (λ q there. with_zero q (nat_eq q 0) refl there)
    in omega (arith, length_keys es)
  where
    with_zero : (q : ℕ) (b : Bool) → nat_eq q 0 ≡ b → (b || list_any (nat_eq q) (keys_of es)) ≡ true → q < 2 ^ 32
    with_zero q true is there = let same : q ≡ 0 = grind arith in omega arith
    with_zero q false is there = below es q all there

-- keys that differ are transactions that differ
absent : {X : Type 0} (t : ℕ) (xs : List (ℕ × X)) → AllByRecursion (λ k. nat_eq t k ≡ false) (keys_of xs) → has_tx t xs ≡ false
absent t [] all = refl
absent t (x ∷ xs) all = or_from (x.0 == t) (has_tx t xs) (nat_eq_equiv.symm x.0 t ∙ all.0) (absent t xs all.1)

pub differ : {X : Type 0} (xs : List (ℕ × X)) → IsDistinct nat_eq (keys_of xs) → TxsDiffer xs
differ [] distinct = tt
differ (x ∷ xs) distinct =
    (absent x.0 xs (IsDistinct-head nat_eq x.0 (keys_of xs) distinct), differ xs (IsDistinct-tail nat_eq x.0 (keys_of xs) distinct))

-- ONE MORE IN THE LIST
pub entered : (es new : List (ℕ × Decision)) (k : Known) (t : ℕ) (d : Decision) → es ≡ k.entries → found nat_cmp k.entries t ≡ None
    → new ≡ in_order nat_eq es t d → new ≡ k.entries ++ (t, d) ∷ []
entered es new k t d same none is =
    is ∙ new_last es t d (ap (λ xs. found nat_cmp xs t) same ∙ none) ∙ ap (λ xs. xs ++ (t, d) ∷ []) same

pub entered_names : (es new : List (ℕ × Decision)) (k : Known) (t : ℕ) (d : Decision) → es ≡ k.entries → found nat_cmp k.entries t ≡ None
    → new ≡ in_order nat_eq es t d → NameTxs es → 1 ≤ t → t < 2 ^ 32 → NameTxs new
entered_names es new k t d same none is all low high =
    rw (is ∙ new_last es t d (ap (λ xs. found nat_cmp xs t) same ∙ none)) (NameTxs-push es t d all low high)
