-- Keys in order.
use Rattle.std.proofs.Common.{◌≡◌, ℕ, List, [], ◌∷◌, ◌++◌, map, refl, sym, ap, subst, ◌∙◌, append_assoc}
use Rattle.std.specs.declared.cmp.Ordering.TheVariants.{Less, Greater}
use Rattle.std.specs.Ordering.{ordering_reverse, match_ordering}
use Rattle.std.specs.List.{AllByRecursion}
use Rattle.std.specs.List.Sorted.{IsStrictlySortedBy}
use Rattle.std.proofs.lemmas.Cmp.{nat_list_cmp_total}
use Rattle.rc_ids.specs.Tables.{added}
use Rattle.rc_ids.specs.Texts.{key_cmp}

all-at : {X : Type 0} (P : X → Type 0) (xs : List X) (x : X) (rest : List X) → AllByRecursion P (xs ++ x ∷ rest) → P x
all-at P [] x rest h = h.0
all-at P (y ∷ ys) x rest h = all-at P ys x rest h.1

-- a key above all goes to the end
added-last : (ks : List (List ℕ)) (k : List ℕ) (rest : List (List ℕ)) → IsStrictlySortedBy key_cmp (ks ++ k ∷ rest) → added key_cmp ks k ≡ ks ++ k ∷ []
unfolding IsStrictlySortedBy
added-last [] k rest sorted = refl
added-last (l ∷ ls) k rest sorted =
    let below : key_cmp l k ≡ Less = all-at (λ y. key_cmp l y ≡ Less) ls k rest sorted.0 in
    let above : key_cmp k l ≡ Greater = nat_list_cmp_total.antisymm k l ∙ ap ordering_reverse below in
    ap (λ o. match_ordering o (k ∷ l ∷ ls) (l ∷ ls) (l ∷ added key_cmp ls k)) above ∙ ap (λ ms. l ∷ ms) (added-last ls k rest sorted.1)

abbrev pub Row : Type 0
Row = List ℕ × (ℕ × List ℕ)

-- the key of one more row
pub keys-more : (rows rest left : List Row) (ks new : List (List ℕ)) (row : Row) → IsStrictlySortedBy key_cmp (map (λ (r : Row). r.0) rows)
    → ks ++ map (λ (r : Row). r.0) left ≡ map (λ (r : Row). r.0) rows → left ≡ row ∷ rest → new ≡ added key_cmp ks row.0
    → new ++ map (λ (r : Row). r.0) rest ≡ map (λ (r : Row). r.0) rows
keys-more rows rest left ks new row sorted all next is =
    let more : List (List ℕ) = map (λ (r : Row). r.0) rest in
    let split : ks ++ row.0 ∷ more ≡ map (λ (r : Row). r.0) rows = ap (λ (rs : List Row). ks ++ map (λ (r : Row). r.0) rs) (sym next) ∙ all in
    let rising : IsStrictlySortedBy key_cmp (ks ++ row.0 ∷ more) = subst (λ (ls : List (List ℕ)). IsStrictlySortedBy key_cmp ls) (sym split) sorted in
    ap (λ (ls : List (List ℕ)). ls ++ more) (is ∙ added-last ks row.0 more rising) ∙ append_assoc ks (row.0 ∷ []) more ∙ split
