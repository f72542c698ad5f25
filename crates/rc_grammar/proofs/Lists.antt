-- What holds of each item of a list, also after a change, and proofs by cases on tests.
use Rattle.std.proofs.Common.{◌≡◌, ℕ, zero, suc, List, [], ◌∷◌, ◌++◌, refl, ap, subst, Bool, true, false, cond, Option, Some, None}
use Rattle.std.specs.Prelude.{map, filter, take, drop, replicate, slice_get, slice_set, ◌||◌, ◌&&◌}
use Rattle.std.specs.List.{AllByRecursion, list_any, flat_map}
use Rattle.std.specs.declared.cmp.Ordering.{Ordering}
use Rattle.std.specs.declared.cmp.Ordering.TheVariants.{Less, Equal, Greater}
use Rattle.std.specs.Ordering.{match_ordering}
use Rattle.rc_ids.specs.Tables.{Table, found, put, without, added, maybe}

-- CASES
pub on_cond : {A : Type 0} (P : A → Type 0) (b : Bool) (x y : A) → (b ≡ true → P x) → (b ≡ false → P y) → P (cond b x y)
on_cond P true x y p q = p refl
on_cond P false x y p q = q refl

pub on_maybe : {A B : Type 0} (P : B → Type 0) (o : Option A) (n : B) (s : A → B) → (o ≡ None → P n) → ((a : A) → o ≡ Some a → P (s a)) → P (maybe o n s)
on_maybe P None n s p q = p refl
on_maybe P (Some a) n s p q = q a refl

pub some_is : {A : Type 0} (x y : A) → Some x ≡ Some y → x ≡ y
some_is x y e = ap (λ o. maybe o x (λ z. z)) e

pub never : {A : Type 0} (x : A) {B : Type 0} → ◌≡◌ {A = Option A} None (Some x) → B
never x e = absurd (cc)

pub and_left : (a b : Bool) → (a && b) ≡ true → a ≡ true
and_left true b e = refl
and_left false b e = e

pub and_right : (a b : Bool) → (a && b) ≡ true → b ≡ true
and_right true b e = e
and_right false b e = absurd (cc)

pub and_false : (a b : Bool) → a ≡ true → (a && b) ≡ false → b ≡ false
and_false true b is e = e
and_false false b is e = absurd (cc)

pub or_none : (a b : Bool) → a ≡ false → b ≡ false → (a || b) ≡ false
or_none true b p q = p
or_none false b p q = q

pub or_first : (a b : Bool) → (a || b) ≡ false → a ≡ false
or_first true b e = e
or_first false b e = refl

pub or_second : (a b : Bool) → (a || b) ≡ false → b ≡ false
or_second true b e = absurd (cc)
or_second false b e = e

-- LISTS
module _ {A : Type 0} (P : A → Type 0) where
  pub all_both : (xs ys : List A) → AllByRecursion P xs → AllByRecursion P ys → AllByRecursion P (xs ++ ys)
  all_both [] ys p q = q
  all_both (x ∷ xs) ys p q = (p.0, all_both xs ys p.1 q)

  pub all_filter : (test : A → Bool) (xs : List A) → AllByRecursion P xs → AllByRecursion P (filter test xs)
  all_filter test [] p = tt
  all_filter test (x ∷ xs) p = on_cond (AllByRecursion P) (test x) (x ∷ filter test xs) (filter test xs) (λ _. (p.0, all_filter test xs p.1)) (λ _. all_filter test xs p.1)

  pub all_take : (n : ℕ) (xs : List A) → AllByRecursion P xs → AllByRecursion P (take n xs)
  all_take zero xs p = tt
  all_take (suc n) [] p = tt
  all_take (suc n) (x ∷ xs) p = (p.0, all_take n xs p.1)

  pub all_drop : (n : ℕ) (xs : List A) → AllByRecursion P xs → AllByRecursion P (drop n xs)
  all_drop zero xs p = p
  all_drop (suc n) [] p = tt
  all_drop (suc n) (x ∷ xs) p = all_drop n xs p.1

  pub all_replicate : (n : ℕ) (x : A) → P x → AllByRecursion P (replicate n x)
  all_replicate zero x p = tt
  all_replicate (suc n) x p = (p, all_replicate n x p)

  pub all_get : (xs : List A) (i : ℕ) (x : A) → AllByRecursion P xs → slice_get xs i ≡ Some x → P x
  all_get [] i x p at = never x at
  all_get (y ∷ xs) zero x p at = subst P (some_is y x at) p.0
  all_get (y ∷ xs) (suc i) x p at = all_get xs i x p.1 at

  pub all_set : (xs : List A) (i : ℕ) (x : A) → AllByRecursion P xs → P x → AllByRecursion P (slice_set xs i x)
  all_set [] i x p q = tt
  all_set (y ∷ xs) zero x p q = (q, p.1)
  all_set (y ∷ xs) (suc i) x p q = (p.0, all_set xs i x p.1 q)

pub all_map : {A B : Type 0} (P : A → Type 0) (Q : B → Type 0) (f : A → B) → ((x : A) → P x → Q (f x)) → (xs : List A) → AllByRecursion P xs → AllByRecursion Q (map f xs)
all_map P Q f g [] p = tt
all_map P Q f g (x ∷ xs) p = (g x p.0, all_map P Q f g xs p.1)

pub all_flat : {A B : Type 0} (P : A → Type 0) (Q : B → Type 0) (f : A → List B) → ((x : A) → P x → AllByRecursion Q (f x)) → (xs : List A) → AllByRecursion P xs
    → AllByRecursion Q (flat_map f xs)
all_flat P Q f g [] p = tt
all_flat P Q f g (x ∷ xs) p = all_both Q (f x) (flat_map f xs) (g x p.0) (all_flat P Q f g xs p.1)

pub all_alike : {A : Type 0} (P Q : A → Type 0) → ((x : A) → P x → Q x) → (xs : List A) → AllByRecursion P xs → AllByRecursion Q xs
all_alike P Q g [] p = tt
all_alike P Q g (x ∷ xs) p = (g x p.0, all_alike P Q g xs p.1)

-- none of those that pass one test passes, where none passes
pub none_filtered : {A : Type 0} (test kept : A → Bool) (xs : List A) → list_any test xs ≡ false → list_any test (filter kept xs) ≡ false
none_filtered test kept [] none = refl
none_filtered test kept (x ∷ xs) none =
    let rest : list_any test (filter kept xs) ≡ false = none_filtered test kept xs (or_second (test x) (list_any test xs) none) in
    on_cond (λ ys. list_any test ys ≡ false) (kept x) (x ∷ filter kept xs) (filter kept xs)
    (λ _. or_none (test x) (list_any test (filter kept xs)) (or_first (test x) (list_any test xs) none) rest)
    (λ _. rest)

-- TABLES AND SETS
module _ {K X : Type 0} (cmp : K → K → Ordering) (P : K × X → Type 0) where
  -- the value comes to its key, or to an equal one that stands there already
  pub all_put : (table : Table K X) (k : K) (v : X) → AllByRecursion P table → P (k, v) → ((e : K × X) → P e → P (e.0, v)) → AllByRecursion P (put cmp table k v)
  all_put [] k v p q same = (q, tt)
  all_put (e ∷ es) k v p q same = by (cmp k e.0) (all_put es k v p.1 q same)
    where
      by : (o : Ordering) → AllByRecursion P (put cmp es k v) → AllByRecursion P (match_ordering o ((k, v) ∷ e ∷ es) ((e.0, v) ∷ es) (e ∷ put cmp es k v))
      by Less rest = (q, p)
      by Equal rest = (same e p.0, p.1)
      by Greater rest = (p.0, rest)

  pub all_without : (table : Table K X) (k : K) → AllByRecursion P table → AllByRecursion P (without cmp table k)
  all_without [] k p = tt
  all_without (e ∷ es) k p = on_cond (AllByRecursion P) _ es (e ∷ without cmp es k) (λ _. p.1) (λ _. (p.0, all_without es k p.1))

-- what is found at a key, where what holds is of the values alone
pub all_found : {K X : Type 0} (cmp : K → K → Ordering) (P : X → Type 0) (table : Table K X) (k : K) (v : X) → AllByRecursion (λ (e : K × X). P e.1) table → found cmp table k ≡ Some v → P v
all_found cmp P [] k v p at = never v at
all_found cmp P (e ∷ es) k v p at =
    on_cond (λ o. o ≡ Some v → P v) _ (Some e.1) (found cmp es k) (λ _ is. subst P (some_is e.1 v is) p.0) (λ _ is. all_found cmp P es k v p.1 is) at

pub all_added : {K : Type 0} (cmp : K → K → Ordering) (P : K → Type 0) (ks : List K) (k : K) → AllByRecursion P ks → P k → AllByRecursion P (added cmp ks k)
all_added cmp P [] k p q = (q, tt)
all_added cmp P (x ∷ xs) k p q = by (cmp k x) (all_added cmp P xs k p.1 q)
  where
    by : (o : Ordering) → AllByRecursion P (added cmp xs k) → AllByRecursion P (match_ordering o (k ∷ x ∷ xs) (x ∷ xs) (x ∷ added cmp xs k))
    by Less rest = (q, p)
    by Equal rest = p
    by Greater rest = (p.0, rest)
