-- Parts in the order of their transactions, and who holds a key by them.
use Rattle.std.proofs.Common.{◌≡◌, ℕ, zero, suc, ◌≤◌, ◌<◌, nat_lt, Bool, true, false, not, ◌||◌, ◌&&◌, ◌==◌, cond, if◌then◌else◌, List, [], ◌∷◌, filter, length, get_or, remove, slice_get, Some, None, is_some, refl, sym, ap, ◌∙◌, subst, arith}
use Rattle.std.specs.declared.cmp.Ordering.{Ordering}
use Rattle.std.specs.declared.cmp.Ordering.TheVariants.{Less, Equal, Greater}
use Rattle.std.specs.Ordering.{nat_cmp, is_eq, is_le, match_ordering}
use Rattle.std.specs.List.{AllByRecursion}
use Rattle.std.specs.List.Sorted.{IsStrictlySortedBy, IsPartitionedBy}
use Rattle.std.specs.Map.{keys_of}
use Rattle.std.specs.Option.{option_map}
use Rattle.std.proofs.lemmas.Cmp.{nat_cmp_total}
use Rattle.std.proofs.lemmas.Map.Lookups.{exact_unsigned}
use Rattle.rc_ids.specs.Tables.{found, put, without, added}
use Rattle.rc_ids.specs.Texts.{same_key}
use Rattle.rc_body.specs.Bodies.{has_key, writes}
use Rattle.rc_body.specs.declared.entry.Entry.{Entry}
use Rattle.rc_protocol.specs.Shard.{first_part}
use Rattle.rc_locks.specs.Cells.{IsRising, others}
use Rattle.rc_locks.specs.Places.{place_where}
use Rattle.rc_locks.proofs.MarkLists.{rises-added, below_kept, below_all}

-- BY HALVES
module _ {X : Type 0} (test p : X → Bool) (flip : (x : X) → test x ≡ not (p x)) where
  pub place_from_point : (xs : List X) (i : ℕ) → i ≤ length xs → ((k : ℕ) (d : X) → k < i → p (get_or xs k d) ≡ true)
      → ((k : ℕ) (d : X) → i ≤ k → k < length xs → p (get_or xs k d) ≡ false) → i ≡ place_where test xs
  place_from_point [] i le low high = omega arith
  place_from_point (x ∷ xs) zero le low high =
      let here : test x ≡ true = flip x ∙ ap not (high 0 x (omega arith) (omega arith)) in
      sym (ap (λ b. if b then 0 else suc (place_where test xs)) here)
  place_from_point (x ∷ xs) (suc i) le low high =
      let here : test x ≡ false = flip x ∙ ap not (low 0 x (omega arith)) in
      ap suc (place_from_point xs i (omega arith) (λ k d lt. low (suc k) d (omega arith)) (λ k d above lt. high (suc k) d (omega arith) (omega arith)))
      ∙ sym (ap (λ b. if b then 0 else suc (place_where test xs)) here)

all_at : (P : ℕ → Type 0) (ps : List (ℕ × List Entry)) (j : ℕ) (d : ℕ × List Entry) → AllByRecursion P (keys_of ps) → j < length ps → P (get_or ps j d).0
all_at P [] j d all lt = absurd (omega arith)
all_at P (p ∷ ps) zero d all lt = all.0
all_at P (p ∷ ps) (suc j) d all lt = all_at P ps j d all.1 (omega arith)

lt_trans : (a b t : ℕ) → nat_cmp a b ≡ Less → nat_lt b t ≡ true → nat_lt a t ≡ true
lt_trans a b t p q = grind arith

pub partitioned : (t : ℕ) (ps : List (ℕ × List Entry)) → IsRising ps → IsPartitionedBy (λ (p : ℕ × List Entry). nat_lt p.0 t) ps
unfolding IsStrictlySortedBy
partitioned t [] up i j d le lt below = absurd (omega arith)
partitioned t (p ∷ ps) up zero zero d le lt below = below
partitioned t (p ∷ ps) up zero (suc j) d le lt below = lt_trans p.0 (get_or ps j d).0 t (all_at (λ y. nat_cmp p.0 y ≡ Less) ps j d up.0 (omega arith)) below
partitioned t (p ∷ ps) up (suc i) zero d le lt below = absurd (omega arith)
partitioned t (p ∷ ps) up (suc i) (suc j) d le lt below = partitioned t ps up.1 i j d (omega arith) (omega arith) below

pub le_test : (t u : ℕ) → is_le (nat_cmp t u) ≡ not (nat_lt u t)
le_test t u = grind arith

-- THE PART OF A TRANSACTION
abbrev pub at_least : ℕ → ℕ × List Entry → Bool
at_least t p = is_le (nat_cmp t p.0)

never_less : (t u : ℕ) → nat_cmp t u ≡ Less → (u == t) ≡ true → ⊥
never_less t u p q = absurd (grind arith)

never_equal : (t u : ℕ) → nat_cmp t u ≡ Equal → (u == t) ≡ false → ⊥
never_equal t u p q = absurd (grind arith)

pub spot_found : (t : ℕ) (ps : List (ℕ × List Entry)) (e : ℕ × List Entry) → place_where (at_least t) ps < length ps → e ≡ get_or ps (place_where (at_least t) ps) e → (e.0 == t) ≡ true
    → (found nat_cmp ps t ≡ option_map (λ (p : ℕ × List Entry). p.1) (slice_get ps (place_where (at_least t) ps))) × (remove ps (place_where (at_least t) ps) ≡ without nat_cmp ps t)
spot_found t [] e lt is same = absurd (omega arith)
spot_found t (p ∷ ps) e lt is same = placed (nat_cmp t p.0) refl lt is (spot_found t ps e)
  where
    placed : (o : Ordering) → nat_cmp t p.0 ≡ o → (if is_le o then 0 else suc (place_where (at_least t) ps)) < length (p ∷ ps)
        → e ≡ get_or (p ∷ ps) (if is_le o then 0 else suc (place_where (at_least t) ps)) e
        → (place_where (at_least t) ps < length ps → e ≡ get_or ps (place_where (at_least t) ps) e → (e.0 == t) ≡ true
        → (found nat_cmp ps t ≡ option_map (λ (p : ℕ × List Entry). p.1) (slice_get ps (place_where (at_least t) ps))) × (remove ps (place_where (at_least t) ps) ≡ without nat_cmp ps t))
        → (cond (is_eq o) (Some p.1) (found nat_cmp ps t) ≡ option_map (λ (p : ℕ × List Entry). p.1) (slice_get (p ∷ ps) (if is_le o then 0 else suc (place_where (at_least t) ps))))
        × (remove (p ∷ ps) (if is_le o then 0 else suc (place_where (at_least t) ps)) ≡ cond (is_eq o) ps (p ∷ without nat_cmp ps t))
    placed Less ord lt is rest = absurd (never_less t p.0 ord (ap (λ (x : ℕ × List Entry). x.0 == t) (sym is) ∙ same))
    placed Equal ord lt is rest = (refl, refl)
    placed Greater ord lt is rest = let r = rest (omega arith) is same in (r.0, ap (λ xs. p ∷ xs) r.1)

pub past_all : (t : ℕ) (ps : List (ℕ × List Entry)) → length ps ≤ place_where (at_least t) ps → found nat_cmp ps t ≡ None
past_all t [] le = refl
past_all t (p ∷ ps) le = placed (nat_cmp t p.0) le (past_all t ps)
  where
    placed : (o : Ordering) → length (p ∷ ps) ≤ (if is_le o then 0 else suc (place_where (at_least t) ps)) → (length ps ≤ place_where (at_least t) ps → found nat_cmp ps t ≡ None)
        → cond (is_eq o) (Some p.1) (found nat_cmp ps t) ≡ None
    placed Less le rest = absurd (omega arith)
    placed Equal le rest = absurd (omega arith)
    placed Greater le rest = rest (omega arith)

above : (t k l : ℕ) → nat_cmp t k ≡ Less → nat_cmp k l ≡ Less → is_eq (nat_cmp t l) ≡ false
above t k l p q = grind arith

none_above : (t k : ℕ) (ps : List (ℕ × List Entry)) → nat_cmp t k ≡ Less → AllByRecursion (λ l. nat_cmp k l ≡ Less) (keys_of ps) → found nat_cmp ps t ≡ None
none_above t k [] low all = refl
none_above t k (p ∷ ps) low all = rw (above t k p.0 low all.0) (none_above t k ps low all.1)

pub spot_other : (t : ℕ) (ps : List (ℕ × List Entry)) (e : ℕ × List Entry) → IsRising ps → place_where (at_least t) ps < length ps → e ≡ get_or ps (place_where (at_least t) ps) e
    → (e.0 == t) ≡ false → found nat_cmp ps t ≡ None
unfolding IsStrictlySortedBy
spot_other t [] e up lt is other = refl
spot_other t (p ∷ ps) e up lt is other = placed (nat_cmp t p.0) refl lt is (spot_other t ps e up.1)
  where
    placed : (o : Ordering) → nat_cmp t p.0 ≡ o → (if is_le o then 0 else suc (place_where (at_least t) ps)) < length (p ∷ ps)
        → e ≡ get_or (p ∷ ps) (if is_le o then 0 else suc (place_where (at_least t) ps)) e
        → (place_where (at_least t) ps < length ps → e ≡ get_or ps (place_where (at_least t) ps) e → (e.0 == t) ≡ false → found nat_cmp ps t ≡ None)
        → cond (is_eq o) (Some p.1) (found nat_cmp ps t) ≡ None
    placed Less ord lt is rest = none_above t p.0 ps ord up.0
    placed Equal ord lt is rest = absurd (never_equal t p.0 ord (ap (λ (x : ℕ × List Entry). x.0 == t) (sym is) ∙ other))
    placed Greater ord lt is rest = rest (omega arith) is other

pub taken_at : (ps : List (ℕ × List Entry)) (i : ℕ) (e : ℕ × List Entry) → i < length ps → e ≡ get_or ps i e → Some e.1 ≡ option_map (λ (p : ℕ × List Entry). p.1) (slice_get ps i)
taken_at [] i e lt is = absurd (omega arith)
taken_at (p ∷ ps) zero e lt is = ap (λ (x : ℕ × List Entry). Some x.1) is
taken_at (p ∷ ps) (suc i) e lt is = taken_at ps i e (omega arith) is

pub without_absent : (t : ℕ) (ps : List (ℕ × List Entry)) → found nat_cmp ps t ≡ None → ps ≡ without nat_cmp ps t
without_absent t [] none = refl
without_absent t (p ∷ ps) none = placed (is_eq (nat_cmp t p.0)) none (without_absent t ps)
  where
    placed : (b : Bool) → cond b (Some p.1) (found nat_cmp ps t) ≡ None → (found nat_cmp ps t ≡ None → ps ≡ without nat_cmp ps t) → p ∷ ps ≡ cond b ps (p ∷ without nat_cmp ps t)
    placed true none rest = absurd cc
    placed false none rest = ap (λ xs. p ∷ xs) (rest none)

-- THE TRANSACTIONS RISE
keys-put : (t : ℕ) (x : List Entry) (ps : List (ℕ × List Entry)) → keys_of (put nat_cmp ps t x) ≡ added nat_cmp (keys_of ps) t
keys-put t x [] = refl
keys-put t x (p ∷ ps) = placed (nat_cmp t p.0) (keys-put t x ps)
  where
    placed : (o : Ordering) → keys_of (put nat_cmp ps t x) ≡ added nat_cmp (keys_of ps) t
        → keys_of (match_ordering o ((t, x) ∷ p ∷ ps) ((p.0, x) ∷ ps) (p ∷ put nat_cmp ps t x)) ≡ match_ordering o (t ∷ p.0 ∷ keys_of ps) (p.0 ∷ keys_of ps) (p.0 ∷ added nat_cmp (keys_of ps) t)
    placed Less rest = refl
    placed Equal rest = refl
    placed Greater rest = ap (λ xs. p.0 ∷ xs) rest

pub rises-put : (t : ℕ) (x : List Entry) (ps : List (ℕ × List Entry)) → IsRising ps → IsRising (put nat_cmp ps t x)
rises-put t x ps up = subst (IsStrictlySortedBy nat_cmp) (sym (keys-put t x ps)) (rises-added nat_cmp_total (keys_of ps) t up)

below_without : (P : ℕ → Type 0) (t : ℕ) (ps : List (ℕ × List Entry)) → AllByRecursion P (keys_of ps) → AllByRecursion P (keys_of (without nat_cmp ps t))
below_without P t [] all = tt
below_without P t (p ∷ ps) all = chosen (is_eq (nat_cmp t p.0)) (below_without P t ps all.1)
  where
    chosen : (b : Bool) → AllByRecursion P (keys_of (without nat_cmp ps t)) → AllByRecursion P (keys_of (cond b ps (p ∷ without nat_cmp ps t)))
    chosen true rest = all.1
    chosen false rest = (all.0, rest)

pub rises-without : (t : ℕ) (ps : List (ℕ × List Entry)) → IsRising ps → IsRising (without nat_cmp ps t)
unfolding IsStrictlySortedBy
rises-without t [] up = tt
rises-without t (p ∷ ps) up = chosen (is_eq (nat_cmp t p.0)) (rises-without t ps up.1)
  where
    chosen : (b : Bool) → IsRising (without nat_cmp ps t) → IsRising (cond b ps (p ∷ without nat_cmp ps t))
    chosen true rest = up.1
    chosen false rest = (below_without (λ y. nat_cmp p.0 y ≡ Less) t ps up.0, rest)

-- THE TRANSACTIONS WHOSE PART PASSES A TEST
abbrev pub kept_of : (List Entry → Bool) → List (ℕ × List Entry) → List ℕ
kept_of test ps = keys_of (filter (λ (p : ℕ × List Entry). test p.1) ps)

pub first_kept : (test : List Entry → Bool) (ps : List (ℕ × List Entry)) → first_part test ps ≡ slice_get (kept_of test ps) 0
first_kept test [] = refl
first_kept test (p ∷ ps) = chosen (test p.1) (first_kept test ps)
  where
    chosen : (b : Bool) → first_part test ps ≡ slice_get (kept_of test ps) 0
        → cond b (Some p.0) (first_part test ps) ≡ slice_get (keys_of (cond b (p ∷ filter (λ (p : ℕ × List Entry). test p.1) ps) (filter (λ (p : ℕ × List Entry). test p.1) ps))) 0
    chosen true rest = refl
    chosen false rest = rest

added_first : (t : ℕ) (xs : List ℕ) → AllByRecursion (λ y. nat_cmp t y ≡ Less) xs → added nat_cmp xs t ≡ t ∷ xs
added_first t [] all = refl
added_first t (x ∷ xs) all = ap (λ o. match_ordering o (t ∷ x ∷ xs) (x ∷ xs) (x ∷ added nat_cmp xs t)) all.0

module _ (test : List Entry → Bool) where
  abbrev passes : ℕ × List Entry → Bool
  passes p = test p.1

  pub kept_of-put : (t : ℕ) (x : List Entry) (ps : List (ℕ × List Entry)) → IsRising ps → found nat_cmp ps t ≡ None
      → kept_of test (put nat_cmp ps t x) ≡ (if test x then added nat_cmp (kept_of test ps) t else kept_of test ps)
  unfolding IsStrictlySortedBy
  kept_of-put t x [] up none = only (test x)
    where
      only : (b : Bool) → keys_of (cond b ((t, x) ∷ []) []) ≡ (if b then t ∷ [] else [])
      only true = refl
      only false = refl
  kept_of-put t x (p ∷ ps) up none = placed (nat_cmp t p.0) refl none (kept_of-put t x ps up.1)
    where
      first : (b : Bool) → added nat_cmp (kept_of test (p ∷ ps)) t ≡ t ∷ kept_of test (p ∷ ps)
          → keys_of (cond b ((t, x) ∷ filter passes (p ∷ ps)) (filter passes (p ∷ ps))) ≡ (if b then added nat_cmp (kept_of test (p ∷ ps)) t else kept_of test (p ∷ ps))
      first true is = sym is
      first false is = refl

      later : (a b : Bool) → nat_cmp t p.0 ≡ Greater → kept_of test (put nat_cmp ps t x) ≡ (if b then added nat_cmp (kept_of test ps) t else kept_of test ps)
          → keys_of (cond a (p ∷ filter passes (put nat_cmp ps t x)) (filter passes (put nat_cmp ps t x)))
          ≡ (if b then added nat_cmp (keys_of (cond a (p ∷ filter passes ps) (filter passes ps))) t else keys_of (cond a (p ∷ filter passes ps) (filter passes ps)))
      later true true ord rest =
          ap (λ xs. p.0 ∷ xs) rest ∙ sym (ap (λ o. match_ordering o (t ∷ p.0 ∷ kept_of test ps) (p.0 ∷ kept_of test ps) (p.0 ∷ added nat_cmp (kept_of test ps) t)) ord)
      later true false ord rest = ap (λ xs. p.0 ∷ xs) rest
      later false true ord rest = rest
      later false false ord rest = rest

      placed : (o : Ordering) → nat_cmp t p.0 ≡ o → cond (is_eq o) (Some p.1) (found nat_cmp ps t) ≡ None
          → (found nat_cmp ps t ≡ None → kept_of test (put nat_cmp ps t x) ≡ (if test x then added nat_cmp (kept_of test ps) t else kept_of test ps))
          → kept_of test (match_ordering o ((t, x) ∷ p ∷ ps) ((p.0, x) ∷ ps) (p ∷ put nat_cmp ps t x)) ≡ (if test x then added nat_cmp (kept_of test (p ∷ ps)) t else kept_of test (p ∷ ps))
      placed Less ord none rest =
          first (test x) (added_first t (kept_of test (p ∷ ps)) (below_kept nat_cmp t passes (p ∷ ps) (ord, below_all nat_cmp_total t p.0 (keys_of ps) ord up.0)))
      placed Equal ord none rest = absurd cc
      placed Greater ord none rest = later (test p.1) (test x) ord (rest none)

  apart : (t y : ℕ) → nat_cmp t y ≡ Less → (y == t) ≡ false
  apart t y lt = grind arith

  others_above : (t : ℕ) (xs : List ℕ) → AllByRecursion (λ y. nat_cmp t y ≡ Less) xs → others t xs ≡ xs
  others_above t [] all = refl
  others_above t (x ∷ xs) all = rw (apart t x all.0) (ap (λ ys. x ∷ ys) (others_above t xs all.1))

  equal_test : (t u : ℕ) → nat_cmp t u ≡ Equal → (u == t) ≡ true
  equal_test t u e = grind arith

  less_test : (t u : ℕ) → nat_cmp t u ≡ Less → (u == t) ≡ false
  less_test t u e = grind arith

  greater_test : (t u : ℕ) → nat_cmp t u ≡ Greater → (u == t) ≡ false
  greater_test t u e = grind arith

  rest_above : (t : ℕ) (p : ℕ × List Entry) (ps : List (ℕ × List Entry)) → nat_cmp t p.0 ≡ Equal → AllByRecursion (λ y. nat_cmp p.0 y ≡ Less) (keys_of ps) → others t (kept_of test ps) ≡ kept_of test ps
  rest_above t p ps ord all =
      let same : t ≡ p.0 = exact_unsigned t p.0 ord in
      others_above t (kept_of test ps) (below_kept nat_cmp t passes ps (subst (λ n. AllByRecursion (λ y. nat_cmp n y ≡ Less) (keys_of ps)) (sym same) all))

  -- one that is left stays, where the others do as they do
  kept_on : (t : ℕ) (p : ℕ × List Entry) (a : Bool) (K L : List ℕ) → (p.0 == t) ≡ false → L ≡ others t K → (if a then p.0 ∷ L else L) ≡ others t (if a then p.0 ∷ K else K)
  kept_on t p true K L other is = ap (λ xs. p.0 ∷ xs) is ∙ sym (ap (λ b. cond (not b) (p.0 ∷ others t K) (others t K)) other)
  kept_on t p false K L other is = is

  keys_chosen : (a : Bool) (p : ℕ × List Entry) (ps : List (ℕ × List Entry)) → keys_of (cond a (p ∷ ps) ps) ≡ (if a then p.0 ∷ keys_of ps else keys_of ps)
  keys_chosen true p ps = refl
  keys_chosen false p ps = refl

  pub kept_of-without : (t : ℕ) (ps : List (ℕ × List Entry)) → IsRising ps → kept_of test (without nat_cmp ps t) ≡ others t (kept_of test ps)
  unfolding IsStrictlySortedBy
  kept_of-without t [] up = refl
  kept_of-without t (p ∷ ps) up = placed (nat_cmp t p.0) refl (kept_of-without t ps up.1)
    where
      dropped : (a : Bool) → (p.0 == t) ≡ true → others t (kept_of test ps) ≡ kept_of test ps → kept_of test ps ≡ others t (if a then p.0 ∷ kept_of test ps else kept_of test ps)
      dropped true same is = sym (ap (λ b. cond (not b) (p.0 ∷ others t (kept_of test ps)) (others t (kept_of test ps))) same ∙ is)
      dropped false same is = sym is

      placed : (o : Ordering) → nat_cmp t p.0 ≡ o → kept_of test (without nat_cmp ps t) ≡ others t (kept_of test ps)
          → kept_of test (cond (is_eq o) ps (p ∷ without nat_cmp ps t)) ≡ others t (kept_of test (p ∷ ps))
      placed Less ord rest =
          keys_chosen (test p.1) p (filter passes (without nat_cmp ps t)) ∙ kept_on t p (test p.1) (kept_of test ps) (kept_of test (without nat_cmp ps t)) (less_test t p.0 ord) rest
          ∙ ap (others t) (sym (keys_chosen (test p.1) p (filter passes ps)))
      placed Equal ord rest =
          dropped (test p.1) (equal_test t p.0 ord) (rest_above t p ps ord up.0) ∙ ap (others t) (sym (keys_chosen (test p.1) p (filter passes ps)))
      placed Greater ord rest =
          keys_chosen (test p.1) p (filter passes (without nat_cmp ps t)) ∙ kept_on t p (test p.1) (kept_of test ps) (kept_of test (without nat_cmp ps t)) (greater_test t p.0 ord) rest
          ∙ ap (others t) (sym (keys_chosen (test p.1) p (filter passes ps)))

  none_kept : (t : ℕ) (x : List Entry) (ps : List (ℕ × List Entry)) → IsRising ps → Some x ≡ found nat_cmp ps t → test x ≡ false → kept_of test ps ≡ others t (kept_of test ps)
  unfolding IsStrictlySortedBy
  none_kept t x [] up there fails = refl
  none_kept t x (p ∷ ps) up there fails = placed (nat_cmp t p.0) refl there (none_kept t x ps up.1)
    where
      placed : (o : Ordering) → nat_cmp t p.0 ≡ o → Some x ≡ cond (is_eq o) (Some p.1) (found nat_cmp ps t)
          → (Some x ≡ found nat_cmp ps t → test x ≡ false → kept_of test ps ≡ others t (kept_of test ps)) → kept_of test (p ∷ ps) ≡ others t (kept_of test (p ∷ ps))
      placed Less ord there rest =
          keys_chosen (test p.1) p (filter passes ps) ∙ kept_on t p (test p.1) (kept_of test ps) (kept_of test ps) (less_test t p.0 ord) (rest there fails)
          ∙ ap (others t) (sym (keys_chosen (test p.1) p (filter passes ps)))
      placed Equal ord there rest =
          let same : x ≡ p.1 = cc in
          let here : kept_of test (p ∷ ps) ≡ kept_of test ps = ap (λ b. keys_of (cond b (p ∷ filter passes ps) (filter passes ps))) (ap test (sym same) ∙ fails) in
          here ∙ sym (rest_above t p ps ord up.0) ∙ ap (others t) (sym here)
      placed Greater ord there rest =
          keys_chosen (test p.1) p (filter passes ps) ∙ kept_on t p (test p.1) (kept_of test ps) (kept_of test ps) (greater_test t p.0 ord) (rest there fails)
          ∙ ap (others t) (sym (keys_chosen (test p.1) p (filter passes ps)))

  pub left_by : (t : ℕ) (x : List Entry) (ps : List (ℕ × List Entry)) (h : Bool) → IsRising ps → Some x ≡ found nat_cmp ps t → (h ≡ false → test x ≡ false)
      → (if h then others t (kept_of test ps) else kept_of test ps) ≡ kept_of test (without nat_cmp ps t)
  left_by t x ps true up there only = sym (kept_of-without t ps up)
  left_by t x ps false up there only = none_kept t x ps up there (only refl) ∙ sym (kept_of-without t ps up)

pub writes_has : (k : List ℕ) (es : List Entry) → has_key k es ≡ false → writes k es ≡ false
writes_has k [] none = refl
writes_has k (e ∷ es) none = at (same_key e.key k) none (writes_has k es)
  where
    at : (b : Bool) → (b || has_key k es) ≡ false → (has_key k es ≡ false → writes k es ≡ false) → ((b && is_some e.write) || writes k es) ≡ false
    at true none rest = absurd cc
    at false none rest = rest none
