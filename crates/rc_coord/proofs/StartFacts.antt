-- What a restart makes again: values by rising numbers, put one after another, are those values.
use Rattle.std.proofs.Common.{◌≡◌, ℕ, List, [], ◌∷◌, ◌++◌, map, refl, sym, ap, subst, ◌∙◌, arith, append_assoc}
use Rattle.std.proofs.lemmas.List.{append-nil}
use Rattle.std.specs.declared.cmp.Ordering.{Ordering}
use Rattle.std.specs.declared.cmp.Ordering.TheVariants.{Less, Greater}
use Rattle.std.specs.List.{AllByRecursion}
use Rattle.std.specs.List.Sorted.{IsStrictlySortedBy}
use Rattle.std.specs.Ordering.{nat_cmp, match_ordering}
use Rattle.rc_ids.specs.Tables.{Table, put}
use Rattle.rc_record.specs.InOrder.{filed}

greater : (t u : ℕ) → nat_cmp t u ≡ Less → nat_cmp u t ≡ Greater
greater t u h = grind arith

module _ {X : Type 0} where
  abbrev AreAbove : ℕ → List (ℕ × X) → Type 0
  AreAbove t [] = Unit {0}
  AreAbove t (e ∷ es) = (nat_cmp t e.0 ≡ Less) × AreAbove t es

  abbrev Rises : List (ℕ × X) → Type 0
  Rises [] = Unit {0}
  Rises (e ∷ es) = AreAbove e.0 es × Rises es

  -- a value after others is above each of them
  among : (t : ℕ) (table rest : List (ℕ × X)) (e : ℕ × X) → AreAbove t (table ++ e ∷ rest) → nat_cmp t e.0 ≡ Less
  among t [] rest e all = all.0
  among t (x ∷ xs) rest e all = among t xs rest e all.1

  put-last : (table rest : List (ℕ × X)) (e : ℕ × X) → Rises (table ++ e ∷ rest) → put nat_cmp table e.0 e.1 ≡ table ++ e ∷ []
  put-last [] rest e rises = refl
  put-last (x ∷ xs) rest e rises =
      ap (λ (o : Ordering). match_ordering o (e ∷ x ∷ xs) ((x.0, e.1) ∷ xs) (x ∷ put nat_cmp xs e.0 e.1)) (greater x.0 e.0 (among x.0 xs rest e rises.0))
      ∙ ap (λ (zs : List (ℕ × X)). x ∷ zs) (put-last xs rest e rises.1)

  filed-rest : (table es : List (ℕ × X)) → Rises (table ++ es) → filed table es ≡ table ++ es
  filed-rest table [] rises = sym (append-nil table)
  filed-rest table (e ∷ es) rises =
      let assoc : (table ++ e ∷ []) ++ es ≡ table ++ e ∷ es = append_assoc table (e ∷ []) es in
      ap (λ (z : Table ℕ X). filed z es) (put-last table es e rises)
      ∙ filed-rest (table ++ e ∷ []) es (subst Rises (sym assoc) rises) ∙ assoc

  -- keys that rise
  rises-keys : (es : List (ℕ × X)) → IsStrictlySortedBy nat_cmp (map (λ (e : ℕ × X). e.0) es) → Rises es
  unfolding IsStrictlySortedBy
  rises-keys [] sorted = tt
  rises-keys (e ∷ es) sorted = (above es sorted.0, rises-keys es sorted.1)
    where
      above : (xs : List (ℕ × X)) → AllByRecursion (λ t. nat_cmp e.0 t ≡ Less) (map (λ (x : ℕ × X). x.0) xs) → AreAbove e.0 xs
      above [] all = tt
      above (x ∷ xs) all = (all.0, above xs all.1)

  pub filed-sorted : (es : List (ℕ × X)) → IsStrictlySortedBy nat_cmp (map (λ (e : ℕ × X). e.0) es) → filed [] es ≡ es
  filed-sorted es sorted = filed-rest [] es (rises-keys es sorted)
