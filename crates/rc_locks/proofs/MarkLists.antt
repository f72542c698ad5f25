-- Rising lists of marks, and which marks stand in them.
use Rattle.std.proofs.Common.{◌≡◌, Bool, true, false, ◌||◌, ◌&&◌, cond, List, [], ◌∷◌, filter, is_some, refl, sym, ap, ◌∙◌, subst}
use Rattle.std.specs.declared.cmp.Ordering.{Ordering}
use Rattle.std.specs.declared.cmp.Ordering.TheVariants.{Less, Equal, Greater}
use Rattle.std.specs.Ordering.{nat_cmp, is_eq, match_ordering, ordering_reverse}
use Rattle.std.specs.Cmp.{IsTotalOrder}
use Rattle.std.specs.List.{AllByRecursion}
use Rattle.std.specs.List.Sorted.{IsStrictlySortedBy}
use Rattle.std.specs.Map.{keys_of}
use Rattle.std.specs.BTreeMap.{is_at}
use Rattle.std.specs.BTreeSet.{insert_key}
use Rattle.std.proofs.lemmas.Cmp.{then_total, on_total, nat_cmp_total, nat_list_cmp_total, tied_itself, alike_right, eq_by_cmp_equiv}
use Rattle.std.proofs.lemmas.Map.Lookups.{CmpEqualImpliesEq, exact_pairs, exact_bytes, exact_unsigned}
use Rattle.std.proofs.lemmas.Map.Keys.{IsDistinct-from_sorted}
use Rattle.std.proofs.lemmas.Map.Entries.{lookup-filter-values, option_filter}
use Rattle.std.proofs.lemmas.Map.Made.{is_some-lookup}
use Rattle.std.proofs.lemmas.Map.Views.{any-filter_same}
use Rattle.rc_ids.specs.Tables.{found, member, added}
use Rattle.rc_ids.specs.Texts.{key_cmp}
use Rattle.rc_protocol.specs.Shard.{Mark, mark_cmp, added_all}

pub mark_total : IsTotalOrder mark_cmp
mark_total = then_total (on_total (λ (m : Mark). m.0) nat_list_cmp_total) (on_total (λ (m : Mark). m.1) nat_cmp_total)

pub mark_exact : CmpEqualImpliesEq mark_cmp
mark_exact = exact_pairs key_cmp nat_cmp exact_bytes exact_unsigned

is_equal : (o : Ordering) → is_eq o ≡ true → o ≡ Equal
is_equal Less e = cc
is_equal Equal e = refl
is_equal Greater e = cc

pub from_same : {K : Type 0} {R : K → K → Ordering} → CmpEqualImpliesEq R → (x y : K) → is_eq (R x y) ≡ true → x ≡ y
from_same {R = R} exact x y e = exact x y (is_equal (R x y) e)

pub same_itself : {K : Type 0} {R : K → K → Ordering} → IsTotalOrder R → (x : K) → is_eq (R x x) ≡ true
same_itself o x = ap is_eq (tied_itself o x)

-- ONE MORE MEMBER
module _ {K : Type 0} {R : K → K → Ordering} (o : IsTotalOrder R) where
  twice : (a b : Bool) → (a || (a || b)) ≡ (a || b)
  twice true b = refl
  twice false b = refl

  exchanged : (a b r : Bool) → (a || (b || r)) ≡ (b || (a || r))
  exchanged true true r = refl
  exchanged true false r = refl
  exchanged false true r = refl
  exchanged false false r = refl

  pub member-added : (xs : List K) (k q : K) → member R (added R xs k) q ≡ (is_eq (R q k) || member R xs q)
  member-added [] k q = refl
  member-added (x ∷ xs) k q = placed (R k x) refl (member-added xs k q)
    where
      placed : (r : Ordering) → R k x ≡ r → member R (insert_key R xs k) q ≡ (is_eq (R q k) || member R xs q)
          → member R (match_ordering r (k ∷ x ∷ xs) (x ∷ xs) (x ∷ insert_key R xs k)) q ≡ (is_eq (R q k) || (is_eq (R q x) || member R xs q))
      placed Less is rest = refl
      placed Equal is rest =
          let same : is_eq (R q k) ≡ is_eq (R q x) = ap is_eq (alike_right o k x q is) in
          sym (twice (is_eq (R q x)) (member R xs q)) ∙ ap (λ b. b || (is_eq (R q x) || member R xs q)) (sym same)
      placed Greater is rest =
          ap (λ b. is_eq (R q x) || b) rest ∙ exchanged (is_eq (R q x)) (is_eq (R q k)) (member R xs q)

  below_added : (x k : K) (xs : List K) → R x k ≡ Less → AllByRecursion (λ y. R x y ≡ Less) xs → AllByRecursion (λ y. R x y ≡ Less) (insert_key R xs k)
  below_added x k [] lt all = (lt, tt)
  below_added x k (y ∷ ys) lt all = placed (R k y) (below_added x k ys lt all.1)
    where
      placed : (r : Ordering) → AllByRecursion (λ z. R x z ≡ Less) (insert_key R ys k) → AllByRecursion (λ z. R x z ≡ Less) (match_ordering r (k ∷ y ∷ ys) (y ∷ ys) (y ∷ insert_key R ys k))
      placed Less rest = (lt, all)
      placed Equal rest = all
      placed Greater rest = (all.0, rest)

  pub below_all : (k x : K) (xs : List K) → R k x ≡ Less → AllByRecursion (λ y. R x y ≡ Less) xs → AllByRecursion (λ y. R k y ≡ Less) xs
  below_all k x [] lt all = tt
  below_all k x (y ∷ ys) lt all = (o.trans k x y lt all.0, below_all k x ys lt all.1)

  pub rises-added : (xs : List K) (k : K) → IsStrictlySortedBy R xs → IsStrictlySortedBy R (added R xs k)
  unfolding IsStrictlySortedBy
  rises-added [] k up = (tt, tt)
  rises-added (x ∷ xs) k up = placed (R k x) refl (rises-added xs k up.1)
    where
      placed : (r : Ordering) → R k x ≡ r → IsStrictlySortedBy R (insert_key R xs k) → IsStrictlySortedBy R (match_ordering r (k ∷ x ∷ xs) (x ∷ xs) (x ∷ insert_key R xs k))
      placed Less is rest = ((is, below_all k x xs is up.0), up)
      placed Equal is rest = up
      placed Greater is rest = (below_added x k xs (o.antisymm x k ∙ ap ordering_reverse is) up.0, rest)

  -- a list that has the member stays as it is
  pub added_again : (xs : List K) (k : K) → added R (added R xs k) k ≡ added R xs k
  added_again [] k = ap (λ r. match_ordering r (k ∷ k ∷ []) (k ∷ []) (k ∷ k ∷ [])) (tied_itself o k)
  added_again (x ∷ xs) k = placed (R k x) refl (added_again xs k)
    where
      placed : (r : Ordering) → R k x ≡ r → insert_key R (insert_key R xs k) k ≡ insert_key R xs k
          → insert_key R (match_ordering r (k ∷ x ∷ xs) (x ∷ xs) (x ∷ insert_key R xs k)) k ≡ match_ordering r (k ∷ x ∷ xs) (x ∷ xs) (x ∷ insert_key R xs k)
      placed Less is rest = ap (λ s. match_ordering s (k ∷ k ∷ x ∷ xs) (k ∷ x ∷ xs) (k ∷ insert_key R (x ∷ xs) k)) (tied_itself o k)
      placed Equal is rest = ap (λ s. match_ordering s (k ∷ x ∷ xs) (x ∷ xs) (x ∷ insert_key R xs k)) is
      placed Greater is rest = ap (λ s. match_ordering s (k ∷ x ∷ insert_key R xs k) (x ∷ insert_key R xs k) (x ∷ insert_key R (insert_key R xs k) k)) is ∙ ap (λ ys. x ∷ ys) rest

  -- FEWER MEMBERS
  pub member-filter : CmpEqualImpliesEq R → (p : K → Bool) (xs : List K) (q : K) → member R (filter p xs) q ≡ (p q && member R xs q)
  member-filter exact p xs q = any-filter_same (is_at (R q)) p (p q) (λ k e. ap p (sym (from_same exact q k e))) xs

  -- TWO LISTS WITH THE SAME MEMBERS
  none_below : (k x : K) (xs : List K) → R k x ≡ Less → AllByRecursion (λ y. R x y ≡ Less) xs → member R xs k ≡ false
  none_below k x [] lt all = refl
  none_below k x (y ∷ ys) lt all = rw (o.trans k x y lt all.0) (none_below k x ys lt all.1)

  here : (x : K) (xs : List K) → member R (x ∷ xs) x ≡ true
  here x xs = ap (λ b. b || member R xs x) (same_itself o x)

  none_under : (x : K) (xs : List K) → AllByRecursion (λ y. R x y ≡ Less) xs → member R xs x ≡ false
  none_under x [] all = refl
  none_under x (y ∷ ys) all = rw all.0 (none_under x ys all.1)

  pub same_members : CmpEqualImpliesEq R → (xs ys : List K) → IsStrictlySortedBy R xs → IsStrictlySortedBy R ys → ((q : K) → member R xs q ≡ member R ys q) → xs ≡ ys
  unfolding IsStrictlySortedBy
  same_members exact [] [] s t h = refl
  same_members exact [] (y ∷ ys) s t h = let e = h y in let f = here y ys in absurd (cc)
  same_members exact (x ∷ xs) [] s t h = let e = h x in let f = here x xs in absurd (cc)
  same_members exact (x ∷ xs) (y ∷ ys) s t h = heads (R x y) refl (same_members exact xs ys s.1 t.1)
    where
      gone : (a b c : Bool) → a ≡ false → b ≡ false → c ≡ true → c ≡ (a || b) → ⊥
      gone a b c p q r s = cc

      tails : (q : K) → is_eq (R x y) ≡ true → (c d : Bool) → is_eq (R q x) ≡ c → is_eq (R q y) ≡ d → member R xs q ≡ member R ys q
      tails q same true d e f =
          let e1 = from_same exact q x e in
          subst (λ z. member R xs z ≡ member R ys z) (sym e1)
          (none_under x xs s.0 ∙ subst (λ z. false ≡ member R ys z) (sym (from_same exact x y same)) (sym (none_under y ys t.0)))
      tails q same false true e f =
          absurd (let back : is_eq (R q x) ≡ true = subst (λ z. is_eq (R q z) ≡ true) (sym (from_same exact x y same)) f in cc)
      tails q same false false e f = let g = h q in cc

      heads : (r : Ordering) → R x y ≡ r → (((q : K) → member R xs q ≡ member R ys q) → xs ≡ ys) → x ∷ xs ≡ y ∷ ys
      heads Less is rest =
          absurd (gone (is_eq (R x y)) (member R ys x) (member R (x ∷ xs) x) (ap is_eq is) (none_below x y ys is t.0) (here x xs) (h x))
      heads Equal is rest =
          let same : is_eq (R x y) ≡ true = ap is_eq is in
          let r = rest (λ q. tails q same (is_eq (R q x)) (is_eq (R q y)) refl refl) in
          let e = exact x y is in
          λ i. e i ∷ r i
      heads Greater is rest =
          let lt : R y x ≡ Less = o.antisymm y x ∙ ap ordering_reverse is in
          absurd (gone (is_eq (R y x)) (member R xs y) (member R (y ∷ ys) y) (ap is_eq lt) (none_below y x xs lt s.0) (here y ys) (sym (h y)))

-- THE KEYS OF SOME ENTRIES
pub below_kept : {K X : Type 0} (R : K → K → Ordering) (k : K) (p : K × X → Bool) (es : List (K × X)) → AllByRecursion (λ y. R k y ≡ Less) (keys_of es) → AllByRecursion (λ y. R k y ≡ Less) (keys_of (filter p es))
below_kept R k p [] all = tt
below_kept R k p (e ∷ es) all = chosen (p e) (below_kept R k p es all.1)
  where
    chosen : (b : Bool) → AllByRecursion (λ y. R k y ≡ Less) (keys_of (filter p es)) → AllByRecursion (λ y. R k y ≡ Less) (keys_of (cond b (e ∷ filter p es) (filter p es)))
    chosen true rest = (all.0, rest)
    chosen false rest = rest

pub rises-kept : {K X : Type 0} (R : K → K → Ordering) (p : K × X → Bool) (es : List (K × X)) → IsStrictlySortedBy R (keys_of es) → IsStrictlySortedBy R (keys_of (filter p es))
unfolding IsStrictlySortedBy
rises-kept R p [] up = tt
rises-kept R p (e ∷ es) up = chosen (p e) (rises-kept R p es up.1)
  where
    chosen : (b : Bool) → IsStrictlySortedBy R (keys_of (filter p es)) → IsStrictlySortedBy R (keys_of (cond b (e ∷ filter p es) (filter p es)))
    chosen true rest = (below_kept R e.0 p es up.0, rest)
    chosen false rest = rest

pub member-kept : {K X : Type 0} {R : K → K → Ordering} (o : IsTotalOrder R) (p : X → Bool) (es : List (K × X)) (q : K) → IsStrictlySortedBy R (keys_of es)
    → member R (keys_of (filter (λ (e : K × X). p e.1) es)) q ≡ is_some (option_filter p (found R es q))
member-kept {K} {X} {R} o p es q up =
    sym (is_some-lookup (is_at (R q)) (filter (λ (e : K × X). p e.1) es))
    ∙ ap is_some (lookup-filter-values (eq_by_cmp_equiv o) p q es (IsDistinct-from_sorted R (keys_of es) up))

-- MANY MORE MARKS
pub rises-added_all : (xs ms : List Mark) → IsStrictlySortedBy mark_cmp xs → IsStrictlySortedBy mark_cmp (added_all xs ms)
rises-added_all xs [] up = up
rises-added_all xs (m ∷ ms) up = rises-added_all (added mark_cmp xs m) ms (rises-added mark_total xs m up)

turned_round : (a b r : Bool) → (b || (a || r)) ≡ ((a || b) || r)
turned_round true true r = refl
turned_round true false r = refl
turned_round false true r = refl
turned_round false false r = refl

pub member-added_all : (xs ms : List Mark) (q : Mark) → member mark_cmp (added_all xs ms) q ≡ (member mark_cmp ms q || member mark_cmp xs q)
member-added_all xs [] q = refl
member-added_all xs (m ∷ ms) q =
    member-added_all (added mark_cmp xs m) ms q
    ∙ ap (λ b. member mark_cmp ms q || b) (member-added mark_total xs m q)
    ∙ turned_round (is_eq (mark_cmp q m)) (member mark_cmp ms q) (member mark_cmp xs q)
