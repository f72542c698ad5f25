-- Tables by number, and lists in order that are filed in them.
use Rattle.std.proofs.Common.{◌≡◌, ℕ, ◌==◌, nat_eq, Bool, true, false, ◌||◌, cond, List, [], ◌∷◌, ◌++◌, Option, Some, None, is_some, refl, sym, ap, ◌∙◌, arith}
use Rattle.std.specs.declared.cmp.Ordering.{Ordering}
use Rattle.std.specs.declared.cmp.Ordering.TheVariants.{Less, Equal, Greater}
use Rattle.std.specs.Ordering.{nat_cmp, is_eq, match_ordering, ordering_reverse}
use Rattle.std.specs.Cmp.{IsTotalOrder}
use Rattle.std.specs.Map.{lookup}
use Rattle.std.proofs.lemmas.Bool.{or_parts}
use Rattle.std.proofs.lemmas.Cmp.{nat_cmp_total}
use Rattle.indexmap.specs.IndexMap.{insert_entry as in_order}
use Rattle.rc_ids.specs.Tables.{Table, found, put, without}
use Rattle.rc_body.specs.Pages.{has_tx, TxsDiffer}
use Rattle.rc_record.specs.InOrder.{filed}

pub eq_is : (o : Ordering) → is_eq o ≡ true → o ≡ Equal
eq_is Less e = absurd cc
eq_is Equal e = refl
eq_is Greater e = absurd cc

module _ {K : Type 0} (R : K → K → Ordering) (o : IsTotalOrder R) where
  back : (a b : K) → R a b ≡ Equal → R b a ≡ Equal
  back a b e = o.antisymm b a ∙ ap ordering_reverse e

  -- keys that are equal to one are equal
  joined : (q k a : K) → R q k ≡ Equal → R q a ≡ Equal → R k a ≡ Equal
  joined q k a e f = o.congr k q a (back q k e) ∙ f

  -- both tests read the same
  same_right : (q k a : K) → R k a ≡ Equal → R q k ≡ R q a
  same_right q k a e = o.antisymm q k ∙ ap ordering_reverse (o.congr k a q e) ∙ sym (o.antisymm q a)

module _ {K X : Type 0} (R : K → K → Ordering) (o : IsTotalOrder R) where
  pub found-put : (table : List (K × X)) (k q : K) (v : X) → found R (put R table k v) q ≡ cond (is_eq (R q k)) (Some v) (found R table q)
  found-put [] k q v = refl
  found-put (e ∷ es) k q v = placed (R k e.0) refl (found-put es k q v)
    where
      twice : (b : Bool) → cond b (Some v) (found R es q) ≡ cond b (Some v) (cond b (Some e.1) (found R es q))
      twice true = refl
      twice false = refl

      past : (a b : Bool) → (a ≡ true → b ≡ true → ⊥) → cond a (Some e.1) (cond b (Some v) (found R es q)) ≡ cond b (Some v) (cond a (Some e.1) (found R es q))
      past true true both = absurd (both refl refl)
      past true false both = refl
      past false true both = refl
      past false false both = refl

      placed : (ord : Ordering) → R k e.0 ≡ ord → found R (put R es k v) q ≡ cond (is_eq (R q k)) (Some v) (found R es q)
          → found R (match_ordering ord ((k, v) ∷ e ∷ es) ((e.0, v) ∷ es) (e ∷ put R es k v)) q ≡ cond (is_eq (R q k)) (Some v) (cond (is_eq (R q e.0)) (Some e.1) (found R es q))
      placed Less is rest = refl
      placed Equal is rest =
          let same : is_eq (R q k) ≡ is_eq (R q e.0) = ap is_eq (same_right R o q k e.0 is) in
          twice (is_eq (R q e.0)) ∙ ap (λ b. cond b (Some v) (cond (is_eq (R q e.0)) (Some e.1) (found R es q))) (sym same)
      placed Greater is rest =
          ap (cond (is_eq (R q e.0)) (Some e.1)) rest
          ∙ past (is_eq (R q e.0)) (is_eq (R q k)) (λ a b. let c : R k e.0 ≡ Equal = joined R o q k e.0 (eq_is (R q k) b) (eq_is (R q e.0) a) in absurd cc)

-- LISTS THAT ARE FILED
equal_test : (t k : ℕ) → nat_eq t k ≡ is_eq (nat_cmp t k)
equal_test t k = grind arith

module _ {X : Type 0} where
  pub filed-append : (table xs ys : List (ℕ × X)) → filed table (xs ++ ys) ≡ filed (filed table xs) ys
  filed-append table [] ys = refl
  filed-append table (x ∷ xs) ys = filed-append (put nat_cmp table x.0 x.1) xs ys

  -- a transaction is found where it was there or is among those that were filed
  pub found-filed : (table es : List (ℕ × X)) (t : ℕ) → is_some (found nat_cmp (filed table es) t) ≡ (is_some (found nat_cmp table t) || is_some (found nat_cmp es t))
  found-filed table [] t = none (is_some (found nat_cmp table t))
    where
      none : (b : Bool) → b ≡ (b || false)
      none true = refl
      none false = refl
  found-filed table (e ∷ es) t =
      found-filed (put nat_cmp table e.0 e.1) es t
      ∙ ap (λ o. is_some o || is_some (found nat_cmp es t)) (found-put nat_cmp nat_cmp_total table e.0 t e.1)
      ∙ either (is_eq (nat_cmp t e.0)) (found nat_cmp table t) (found nat_cmp es t)
    where
      either : (b : Bool) (x y : Option X) → (is_some (cond b (Some e.1) x) || is_some y) ≡ (is_some x || is_some (cond b (Some e.1) y))
      either true None y = refl
      either true (Some x) y = refl
      either false x y = refl

  -- a key is there as it is found
  pub has_key : (es : List (ℕ × X)) (t : ℕ) → is_some (lookup (nat_eq t) es) ≡ is_some (found nat_cmp es t)
  has_key [] t = refl
  has_key (e ∷ es) t = ap (λ b. is_some (cond b (Some e.1) (lookup (nat_eq t) es))) (equal_test t e.0) ∙ at (is_eq (nat_cmp t e.0)) (has_key es t)
    where
      at : (b : Bool) → is_some (lookup (nat_eq t) es) ≡ is_some (found nat_cmp es t) → is_some (cond b (Some e.1) (lookup (nat_eq t) es)) ≡ is_some (cond b (Some e.1) (found nat_cmp es t))
      at true rest = refl
      at false rest = rest

-- BY NUMBER
less_back : (t u : ℕ) → nat_cmp t u ≡ Less → nat_cmp u t ≡ Greater
less_back t u h = grind arith

greater_back : (t u : ℕ) → nat_cmp t u ≡ Greater → nat_cmp u t ≡ Less
greater_back t u h = grind arith

less_trans : (t e u : ℕ) → nat_cmp t e ≡ Less → nat_cmp u e ≡ Greater → nat_cmp u t ≡ Greater
less_trans t e u h k = grind arith

less_equal : (t e u : ℕ) → nat_cmp t e ≡ Less → nat_cmp u e ≡ Equal → nat_cmp u t ≡ Greater
less_equal t e u h k = grind arith

equal_back : (t u : ℕ) → nat_cmp t u ≡ Equal → nat_cmp u t ≡ Equal
equal_back t u h = grind arith

apart_from : (t u : ℕ) → (u == t) ≡ false → nat_cmp u t ≡ Equal → ⊥
apart_from t u other same = absurd (grind arith)

eq_test : (t u : ℕ) → (u == t) ≡ false → is_eq (nat_cmp t u) ≡ false
eq_test t u other = grind arith

self_test : (t : ℕ) → is_eq (nat_cmp t t) ≡ true
self_test t = grind arith

module _ {X : Type 0} where
  -- a later value takes the place of an earlier one
  pub put-same : (table : Table ℕ X) (t : ℕ) (x y : X) → put nat_cmp (put nat_cmp table t x) t y ≡ put nat_cmp table t y
  put-same [] t x y = ap (λ o. match_ordering o ((t, y) ∷ (t, x) ∷ []) ((t, y) ∷ []) ((t, x) ∷ (t, y) ∷ [])) (self t)
    where
      self : (n : ℕ) → nat_cmp n n ≡ Equal
      self n = grind arith
  put-same (e ∷ es) t x y = placed (nat_cmp t e.0) refl (put-same es t x y)
    where
      self : (n : ℕ) → nat_cmp n n ≡ Equal
      self n = grind arith

      placed : (o : Ordering) → nat_cmp t e.0 ≡ o → put nat_cmp (put nat_cmp es t x) t y ≡ put nat_cmp es t y
          → put nat_cmp (match_ordering o ((t, x) ∷ e ∷ es) ((e.0, x) ∷ es) (e ∷ put nat_cmp es t x)) t y ≡ match_ordering o ((t, y) ∷ e ∷ es) ((e.0, y) ∷ es) (e ∷ put nat_cmp es t y)
      placed Less is rest = ap (λ o. match_ordering o ((t, y) ∷ (t, x) ∷ e ∷ es) ((t, y) ∷ e ∷ es) ((t, x) ∷ put nat_cmp (e ∷ es) t y)) (self t)
      placed Equal is rest = ap (λ o. match_ordering o ((t, y) ∷ (e.0, x) ∷ es) ((e.0, y) ∷ es) ((e.0, x) ∷ put nat_cmp es t y)) is
      placed Greater is rest = ap (λ o. match_ordering o ((t, y) ∷ e ∷ put nat_cmp es t x) ((e.0, y) ∷ put nat_cmp es t x) (e ∷ put nat_cmp (put nat_cmp es t x) t y)) is ∙ ap (λ zs. e ∷ zs) rest

  abbrev into : Ordering → ℕ → X → (ℕ × X) → Table ℕ X → Table ℕ X
  into o t x e es = match_ordering o ((t, x) ∷ e ∷ es) ((e.0, x) ∷ es) (e ∷ put nat_cmp es t x)

  both_first : (table : Table ℕ X) (t u : ℕ) (x y : X) (o : Ordering) → nat_cmp u t ≡ o → (o ≡ Equal → ⊥)
      → match_ordering o ((u, y) ∷ (t, x) ∷ table) ((t, y) ∷ table) ((t, x) ∷ (u, y) ∷ table) ≡ match_ordering (nat_cmp t u) ((t, x) ∷ (u, y) ∷ table) ((u, x) ∷ table) ((u, y) ∷ (t, x) ∷ table)
  both_first table t u x y Less is apart = sym (ap (λ o. match_ordering o ((t, x) ∷ (u, y) ∷ table) ((u, x) ∷ table) ((u, y) ∷ (t, x) ∷ table)) (less_back u t is))
  both_first table t u x y Equal is apart = absurd (apart refl)
  both_first table t u x y Greater is apart = sym (ap (λ o. match_ordering o ((t, x) ∷ (u, y) ∷ table) ((u, x) ∷ table) ((u, y) ∷ (t, x) ∷ table)) (greater_back u t is))

  -- values of two transactions come in any order
  pub put-other : (table : Table ℕ X) (t u : ℕ) (x y : X) → (nat_cmp u t ≡ Equal → ⊥) → put nat_cmp (put nat_cmp table t x) u y ≡ put nat_cmp (put nat_cmp table u y) t x
  put-other [] t u x y apart = both_first [] t u x y (nat_cmp u t) refl apart
  put-other (e ∷ es) t u x y apart = placed (nat_cmp t e.0) (nat_cmp u e.0) refl refl (put-other es t u x y apart)
    where
      placed : (a b : Ordering) → nat_cmp t e.0 ≡ a → nat_cmp u e.0 ≡ b → put nat_cmp (put nat_cmp es t x) u y ≡ put nat_cmp (put nat_cmp es u y) t x
          → put nat_cmp (into a t x e es) u y ≡ put nat_cmp (into b u y e es) t x
      placed Less Less p q rest =
          ap (λ b. match_ordering (nat_cmp u t) ((u, y) ∷ (t, x) ∷ e ∷ es) ((t, y) ∷ e ∷ es) ((t, x) ∷ into b u y e es)) q
          ∙ both_first (e ∷ es) t u x y (nat_cmp u t) refl apart
          ∙ sym (ap (λ a. match_ordering (nat_cmp t u) ((t, x) ∷ (u, y) ∷ e ∷ es) ((u, x) ∷ e ∷ es) ((u, y) ∷ into a t x e es)) p)
      placed Less Equal p q rest =
          ap (λ b. match_ordering (nat_cmp u t) ((u, y) ∷ (t, x) ∷ e ∷ es) ((t, y) ∷ e ∷ es) ((t, x) ∷ into b u y e es)) q
          ∙ ap (λ o. match_ordering o ((u, y) ∷ (t, x) ∷ e ∷ es) ((t, y) ∷ e ∷ es) ((t, x) ∷ (e.0, y) ∷ es)) (less_equal t e.0 u p q)
          ∙ sym (ap (λ a. into a t x (e.0, y) es) p)
      placed Less Greater p q rest =
          ap (λ b. match_ordering (nat_cmp u t) ((u, y) ∷ (t, x) ∷ e ∷ es) ((t, y) ∷ e ∷ es) ((t, x) ∷ into b u y e es)) q
          ∙ ap (λ o. match_ordering o ((u, y) ∷ (t, x) ∷ e ∷ es) ((t, y) ∷ e ∷ es) ((t, x) ∷ e ∷ put nat_cmp es u y)) (less_trans t e.0 u p q)
          ∙ sym (ap (λ a. into a t x e (put nat_cmp es u y)) p)
      placed Equal Less p q rest =
          ap (λ b. into b u y (e.0, x) es) q
          ∙ sym (ap (λ a. match_ordering (nat_cmp t u) ((t, x) ∷ (u, y) ∷ e ∷ es) ((u, x) ∷ e ∷ es) ((u, y) ∷ into a t x e es)) p
          ∙ ap (λ o. match_ordering o ((t, x) ∷ (u, y) ∷ e ∷ es) ((u, x) ∷ e ∷ es) ((u, y) ∷ (e.0, x) ∷ es)) (less_equal u e.0 t q p))
      placed Equal Equal p q rest = absurd (apart (nat_cmp_total.congr u e.0 t q ∙ equal_back t e.0 p))
      placed Equal Greater p q rest = ap (λ b. into b u y (e.0, x) es) q ∙ sym (ap (λ a. into a t x e (put nat_cmp es u y)) p)
      placed Greater Less p q rest =
          ap (λ b. into b u y e (put nat_cmp es t x)) q
          ∙ sym (ap (λ a. match_ordering (nat_cmp t u) ((t, x) ∷ (u, y) ∷ e ∷ es) ((u, x) ∷ e ∷ es) ((u, y) ∷ into a t x e es)) p
          ∙ ap (λ o. match_ordering o ((t, x) ∷ (u, y) ∷ e ∷ es) ((u, x) ∷ e ∷ es) ((u, y) ∷ e ∷ put nat_cmp es t x)) (less_trans u e.0 t q p))
      placed Greater Equal p q rest = ap (λ b. into b u y e (put nat_cmp es t x)) q ∙ sym (ap (λ a. into a t x (e.0, y) es) p)
      placed Greater Greater p q rest =
          ap (λ b. into b u y e (put nat_cmp es t x)) q ∙ ap (λ zs. e ∷ zs) rest ∙ sym (ap (λ a. into a t x e (put nat_cmp es u y)) p)

  -- a transaction that is not among these may come before or after them
  pub put-filed : (table : Table ℕ X) (es : List (ℕ × X)) (t : ℕ) (x : X) → has_tx t es ≡ false → filed (put nat_cmp table t x) es ≡ put nat_cmp (filed table es) t x
  put-filed table [] t x none = refl
  put-filed table (e ∷ es) t x none =
      let parts = or_parts (e.0 == t) (has_tx t es) none in
      ap (λ (z : Table ℕ X). filed z es) (put-other table t e.0 x e.1 (apart_from t e.0 parts.0)) ∙ put-filed (put nat_cmp table e.0 e.1) es t x parts.1

  -- a value in its place, or at the end
  pub filed-in_order : (table : Table ℕ X) (es : List (ℕ × X)) (t : ℕ) (x : X) → TxsDiffer es → filed table (in_order nat_eq es t x) ≡ put nat_cmp (filed table es) t x
  filed-in_order table [] t x apart = refl
  filed-in_order table (e ∷ es) t x apart = placed (nat_eq t e.0) refl (filed-in_order (put nat_cmp table e.0 e.1) es t x apart.1)
    where
      same_is : (u v : ℕ) → nat_eq u v ≡ true → u ≡ v
      same_is u v h = grind arith

      placed : (b : Bool) → nat_eq t e.0 ≡ b → filed (put nat_cmp table e.0 e.1) (in_order nat_eq es t x) ≡ put nat_cmp (filed (put nat_cmp table e.0 e.1) es) t x
          → filed table (cond b ((e.0, x) ∷ es) (e ∷ in_order nat_eq es t x)) ≡ put nat_cmp (filed (put nat_cmp table e.0 e.1) es) t x
      placed true is rest =
          ap (λ (z : Table ℕ X). filed z es) (sym (put-same table e.0 e.1 x)) ∙ put-filed (put nat_cmp table e.0 e.1) es e.0 x apart.0
          ∙ ap (λ u. put nat_cmp (filed (put nat_cmp table e.0 e.1) es) u x) (sym (same_is t e.0 is))
      placed false is rest = rest

  without-put : (table : Table ℕ X) (t : ℕ) (x : X) → found nat_cmp table t ≡ None → without nat_cmp (put nat_cmp table t x) t ≡ table
  without-put [] t x none = ap (λ b. cond b [] ((t, x) ∷ [])) (self_test t)
  without-put (e ∷ es) t x none = placed (nat_cmp t e.0) refl none (without-put es t x)
    where
      placed : (o : Ordering) → nat_cmp t e.0 ≡ o → cond (is_eq o) (Some e.1) (found nat_cmp es t) ≡ None → (found nat_cmp es t ≡ None → without nat_cmp (put nat_cmp es t x) t ≡ es)
          → without nat_cmp (into o t x e es) t ≡ e ∷ es
      placed Less is none rest = ap (λ b. cond b (e ∷ es) ((t, x) ∷ without nat_cmp (e ∷ es) t)) (self_test t)
      placed Equal is none rest = absurd cc
      placed Greater is none rest = ap (λ o. cond (is_eq o) (put nat_cmp es t x) (e ∷ without nat_cmp (put nat_cmp es t x) t)) is ∙ ap (λ zs. e ∷ zs) (rest none)

  without-absent : (table : Table ℕ X) (t : ℕ) → found nat_cmp table t ≡ None → without nat_cmp table t ≡ table
  without-absent [] t none = refl
  without-absent (e ∷ es) t none = placed (is_eq (nat_cmp t e.0)) none (without-absent es t)
    where
      placed : (b : Bool) → cond b (Some e.1) (found nat_cmp es t) ≡ None → (found nat_cmp es t ≡ None → without nat_cmp es t ≡ es) → cond b es (e ∷ without nat_cmp es t) ≡ e ∷ es
      placed true none rest = absurd cc
      placed false none rest = ap (λ zs. e ∷ zs) (rest none)

  absent-put : (table : Table ℕ X) (t u : ℕ) (x : X) → (u == t) ≡ false → found nat_cmp table t ≡ None → found nat_cmp (put nat_cmp table u x) t ≡ None
  absent-put table t u x other none =
      found-put nat_cmp nat_cmp_total table u t x ∙ ap (λ b. cond b (Some x) (found nat_cmp table t)) (eq_test t u other) ∙ none

  pub absent-filed : (table : Table ℕ X) (es : List (ℕ × X)) (t : ℕ) → has_tx t es ≡ false → found nat_cmp table t ≡ None → found nat_cmp (filed table es) t ≡ None
  absent-filed table [] t other none = none
  absent-filed table (e ∷ es) t other none =
      let parts = or_parts (e.0 == t) (has_tx t es) other in absent-filed (put nat_cmp table e.0 e.1) es t parts.1 (absent-put table t e.0 e.1 parts.0 none)

  -- one transaction less
  pub filed-without : (table : Table ℕ X) (es : List (ℕ × X)) (t : ℕ) → TxsDiffer es → found nat_cmp table t ≡ None → filed table (without nat_cmp es t) ≡ without nat_cmp (filed table es) t
  filed-without table [] t apart none = sym (without-absent table t none)
  filed-without table (e ∷ es) t apart none =
      placed (is_eq (nat_cmp t e.0)) refl (λ other. filed-without (put nat_cmp table e.0 e.1) es t apart.1 (absent-put table t e.0 e.1 other none))
    where
      same_is : (u v : ℕ) → is_eq (nat_cmp u v) ≡ true → u ≡ v
      same_is u v h = grind arith

      other_is : (u v : ℕ) → is_eq (nat_cmp u v) ≡ false → (v == u) ≡ false
      other_is u v h = grind arith

      placed : (b : Bool) → is_eq (nat_cmp t e.0) ≡ b
          → ((e.0 == t) ≡ false → filed (put nat_cmp table e.0 e.1) (without nat_cmp es t) ≡ without nat_cmp (filed (put nat_cmp table e.0 e.1) es) t)
          → filed table (cond b es (e ∷ without nat_cmp es t)) ≡ without nat_cmp (filed (put nat_cmp table e.0 e.1) es) t
      placed true is rest =
          let t_is : t ≡ e.0 = same_is t e.0 is in
          let none_here : found nat_cmp table e.0 ≡ None = ap (found nat_cmp table) (sym t_is) ∙ none in
          sym (without-put (filed table es) e.0 e.1 (absent-filed table es e.0 apart.0 none_here))
          ∙ ap (λ (z : Table ℕ X). without nat_cmp z e.0) (sym (put-filed table es e.0 e.1 apart.0))
          ∙ ap (without nat_cmp (filed (put nat_cmp table e.0 e.1) es)) (sym t_is)
      placed false is rest = rest (other_is t e.0 is)
