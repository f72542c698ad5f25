-- Values by number: what the list of a `Numbered` has is what its table has.
use Rattle.std.proofs.Common.{◌≡◌, ℕ, ◌<◌, ◌≤◌, ◌==◌, nat_eq, Bool, true, false, cond, List, [], ◌∷◌, Some, None, refl, sym, ap, ◌∙◌, arith}
use Rattle.std.specs.declared.cmp.Ordering.{Ordering}
use Rattle.std.specs.declared.cmp.Ordering.TheVariants.{Less, Equal, Greater}
use Rattle.std.specs.Ordering.{nat_cmp, is_eq, match_ordering}
use Rattle.std.specs.List.{AllByRecursion, IsDistinct}
use Rattle.std.specs.Map.{lookup, keys_of}
use Rattle.std.proofs.lemmas.Bool.{or_parts, or_from}
use Rattle.std.proofs.lemmas.Cmp.{nat_cmp_total}
use Rattle.rc_ids.specs.Tables.{Table, found, put, without}
use Rattle.rc_body.specs.Pages.{has_tx, TxsDiffer}
use Rattle.rc_record.specs.InOrder.{filed}
use Rattle.rc_record.proofs.ByNumber.{found-put}

same_test : (t u : ℕ) → is_eq (nat_cmp t u) ≡ nat_eq t u
same_test t u = grind arith

other_test : (t u : ℕ) → (t == u) ≡ false → nat_eq u t ≡ false
other_test t u h = grind arith

same_is : (t u : ℕ) → nat_eq t u ≡ true → t ≡ u
same_is t u h = grind arith

eq_is : (t u : ℕ) → is_eq (nat_cmp t u) ≡ true → t ≡ u
eq_is t u h = grind arith

differs : (t u : ℕ) → t < u → is_eq (nat_cmp t u) ≡ false
differs t u h = grind arith

is_less : (t u : ℕ) → nat_cmp t u ≡ Less → t < u
is_less t u h = grind arith

is_greater : (t u : ℕ) → nat_cmp t u ≡ Greater → u < t
is_greater t u h = grind arith

equals : (t u : ℕ) → nat_cmp t u ≡ Equal → t ≡ u
equals t u h = grind arith

itself : (t : ℕ) → is_eq (nat_cmp t t) ≡ true
itself t = grind arith

module _ {X : Type 0} where
  -- not among these, a transaction has what it had before them
  found-past : (table : Table ℕ X) (es : List (ℕ × X)) (t : ℕ) → has_tx t es ≡ false → found nat_cmp (filed table es) t ≡ found nat_cmp table t
  found-past table [] t none = refl
  found-past table (e ∷ es) t none =
      let parts = or_parts (e.0 == t) (has_tx t es) none in
      found-past (put nat_cmp table e.0 e.1) es t parts.1 ∙ found-put nat_cmp nat_cmp_total table e.0 t e.1
      ∙ ap (λ b. cond b (Some e.1) (found nat_cmp table t)) (same_test t e.0 ∙ other_test e.0 t parts.0)

  found-all : (table : Table ℕ X) (es : List (ℕ × X)) (t : ℕ) → TxsDiffer es → found nat_cmp table t ≡ None → found nat_cmp (filed table es) t ≡ lookup (nat_eq t) es
  found-all table [] t apart none = none
  found-all table (e ∷ es) t apart none = placed (nat_eq t e.0) refl (found-all (put nat_cmp table e.0 e.1) es t apart.1)
    where
      next : (b : Bool) → nat_eq t e.0 ≡ b → found nat_cmp (put nat_cmp table e.0 e.1) t ≡ cond b (Some e.1) None
      next b is =
          found-put nat_cmp nat_cmp_total table e.0 t e.1 ∙ ap (λ c. cond c (Some e.1) (found nat_cmp table t)) (same_test t e.0 ∙ is) ∙ ap (cond b (Some e.1)) none

      placed : (b : Bool) → nat_eq t e.0 ≡ b
          → (found nat_cmp (put nat_cmp table e.0 e.1) t ≡ None → found nat_cmp (filed (put nat_cmp table e.0 e.1) es) t ≡ lookup (nat_eq t) es)
          → found nat_cmp (filed (put nat_cmp table e.0 e.1) es) t ≡ cond b (Some e.1) (lookup (nat_eq t) es)
      placed true is rest =
          found-past (put nat_cmp table e.0 e.1) es t (ap (λ u. has_tx u es) (same_is t e.0 is) ∙ apart.0) ∙ next true is
      placed false is rest = rest (next false is)

  pub found-by_number : (es : List (ℕ × X)) (t : ℕ) → TxsDiffer es → lookup (nat_eq t) es ≡ found nat_cmp (filed [] es) t
  found-by_number es t apart = sym (found-all [] es t apart refl)

  -- TABLES IN THE ORDER OF THEIR NUMBERS
  abbrev AreAbove : ℕ → Table ℕ X → Type 0
  AreAbove n [] = Unit {0}
  AreAbove n (e ∷ es) = (n < e.0) × AreAbove n es

  abbrev Rises : Table ℕ X → Type 0
  Rises [] = Unit {0}
  Rises (e ∷ es) = AreAbove e.0 es × Rises es

  above-more : (n m : ℕ) (es : Table ℕ X) → n < m → AreAbove m es → AreAbove n es
  above-more n m [] lt all = tt
  above-more n m (e ∷ es) lt all = let first : m < e.0 = all.0 in (omega arith, above-more n m es lt all.1)

  above-put : (n t : ℕ) (es : Table ℕ X) (x : X) → n < t → AreAbove n es → AreAbove n (put nat_cmp es t x)
  above-put n t [] x lt all = (lt, tt)
  above-put n t (e ∷ es) x lt all = placed (nat_cmp t e.0) (above-put n t es x lt all.1)
    where
      placed : (o : Ordering) → AreAbove n (put nat_cmp es t x) → AreAbove n (match_ordering o ((t, x) ∷ e ∷ es) ((e.0, x) ∷ es) (e ∷ put nat_cmp es t x))
      placed Less rest = (lt, all)
      placed Equal rest = (all.0, all.1)
      placed Greater rest = (all.0, rest)

  rises-put : (t : ℕ) (es : Table ℕ X) (x : X) → Rises es → Rises (put nat_cmp es t x)
  rises-put t [] x rises = (tt, tt)
  rises-put t (e ∷ es) x rises = placed (nat_cmp t e.0) refl (rises-put t es x rises.1)
    where
      placed : (o : Ordering) → nat_cmp t e.0 ≡ o → Rises (put nat_cmp es t x) → Rises (match_ordering o ((t, x) ∷ e ∷ es) ((e.0, x) ∷ es) (e ∷ put nat_cmp es t x))
      placed Less is rest = let lt : t < e.0 = is_less t e.0 is in ((lt, above-more t e.0 es lt rises.0), rises)
      placed Equal is rest = (rises.0, rises.1)
      placed Greater is rest = (above-put e.0 t es x (is_greater t e.0 is) rises.0, rest)

  rises-filed : (table : Table ℕ X) (es : List (ℕ × X)) → Rises table → Rises (filed table es)
  rises-filed table [] rises = rises
  rises-filed table (e ∷ es) rises = rises-filed (put nat_cmp table e.0 e.1) es (rises-put e.0 table e.1 rises)

  above-without : (n t : ℕ) (es : Table ℕ X) → AreAbove n es → AreAbove n (without nat_cmp es t)
  above-without n t [] all = tt
  above-without n t (e ∷ es) all = placed (is_eq (nat_cmp t e.0)) (above-without n t es all.1)
    where
      placed : (b : Bool) → AreAbove n (without nat_cmp es t) → AreAbove n (cond b es (e ∷ without nat_cmp es t))
      placed true rest = all.1
      placed false rest = (all.0, rest)

  rises-without : (t : ℕ) (es : Table ℕ X) → Rises es → Rises (without nat_cmp es t)
  rises-without t [] rises = tt
  rises-without t (e ∷ es) rises = placed (is_eq (nat_cmp t e.0)) (rises-without t es rises.1)
    where
      placed : (b : Bool) → Rises (without nat_cmp es t) → Rises (cond b es (e ∷ without nat_cmp es t))
      placed true rest = rises.1
      placed false rest = (above-without e.0 t es rises.0, rest)

  found-below : (n q : ℕ) (es : Table ℕ X) → AreAbove n es → q ≤ n → found nat_cmp es q ≡ None
  found-below n q [] all le = refl
  found-below n q (e ∷ es) all le =
      let first : n < e.0 = all.0 in
      ap (λ b. cond b (Some e.1) (found nat_cmp es q)) (differs q e.0 (omega arith)) ∙ found-below n q es all.1 le

  found-without : (t q : ℕ) (es : Table ℕ X) → Rises es → found nat_cmp (without nat_cmp es t) q ≡ cond (is_eq (nat_cmp q t)) None (found nat_cmp es q)
  found-without t q [] rises = none (is_eq (nat_cmp q t))
    where
      none : (b : Bool) → found {X = X} nat_cmp [] q ≡ cond b None (found {X = X} nat_cmp [] q)
      none true = refl
      none false = refl
  found-without t q (e ∷ es) rises = placed (is_eq (nat_cmp t e.0)) (is_eq (nat_cmp q e.0)) (is_eq (nat_cmp q t)) refl refl refl (found-without t q es rises.1)
    where
      both : is_eq (nat_cmp t e.0) ≡ true → is_eq (nat_cmp q e.0) ≡ is_eq (nat_cmp q t)
      both is = ap (λ (n : ℕ). is_eq (nat_cmp q n)) (sym (eq_is t e.0 is))

      past : is_eq (nat_cmp t e.0) ≡ false → is_eq (nat_cmp q e.0) ≡ true → is_eq (nat_cmp q t) ≡ true → ⊥
      past other same is =
          let e_is : q ≡ e.0 = eq_is q e.0 same in let t_is : q ≡ t = eq_is q t is in
          let one : is_eq (nat_cmp t e.0) ≡ true = ap (λ (n : ℕ). is_eq (nat_cmp n e.0)) (sym t_is) ∙ same in absurd cc

      placed : (a b c : Bool) → is_eq (nat_cmp t e.0) ≡ a → is_eq (nat_cmp q e.0) ≡ b → is_eq (nat_cmp q t) ≡ c
          → found nat_cmp (without nat_cmp es t) q ≡ cond c None (found nat_cmp es q)
          → found nat_cmp (cond a es (e ∷ without nat_cmp es t)) q ≡ cond c None (cond b (Some e.1) (found nat_cmp es q))
      placed true true true p r s rest =
          found-below e.0 q es rises.0 (let e_is : q ≡ e.0 = eq_is q e.0 r in omega arith)
      placed true true false p r s rest = absurd (let one = both p in cc)
      placed true false true p r s rest = absurd (let one = both p in cc)
      placed true false false p r s rest = refl
      placed false true true p r s rest = absurd (past p r s)
      placed false true false p r s rest = ap (λ b. cond b (Some e.1) (found nat_cmp (without nat_cmp es t) q)) r
      placed false false true p r s rest = ap (λ b. cond b (Some e.1) (found nat_cmp (without nat_cmp es t) q)) r ∙ rest
      placed false false false p r s rest = ap (λ b. cond b (Some e.1) (found nat_cmp (without nat_cmp es t) q)) r ∙ rest

  -- two tables that have the same at each number are one
  abbrev Same : Table ℕ X → Table ℕ X → Type 0
  Same xs ys = (q : ℕ) → found nat_cmp xs q ≡ found nat_cmp ys q

  first-found : (x : ℕ × X) (xs : Table ℕ X) → found nat_cmp (x ∷ xs) x.0 ≡ Some x.1
  first-found x xs = ap (λ b. cond b (Some x.1) (found nat_cmp xs x.0)) (itself x.0)

  never-first : (x y : ℕ × X) (xs ys : Table ℕ X) → AreAbove y.0 ys → x.0 < y.0 → Same (x ∷ xs) (y ∷ ys) → ⊥
  never-first x y xs ys above lt same =
      let here : found nat_cmp (x ∷ xs) x.0 ≡ Some x.1 = first-found x xs in
      let there : found nat_cmp (y ∷ ys) x.0 ≡ None =
      ap (λ b. cond b (Some y.1) (found nat_cmp ys x.0)) (differs x.0 y.0 lt) ∙ found-below y.0 x.0 ys above (omega arith) in
      let one : found nat_cmp (x ∷ xs) x.0 ≡ found nat_cmp (y ∷ ys) x.0 = same x.0 in absurd cc

  rest-same : (x y : ℕ × X) (xs ys : Table ℕ X) → x.0 ≡ y.0 → AreAbove x.0 xs → AreAbove y.0 ys → Same (x ∷ xs) (y ∷ ys) → Same xs ys
  rest-same x y xs ys key above_x above_y same q = placed (is_eq (nat_cmp q x.0)) refl
    where
      placed : (b : Bool) → is_eq (nat_cmp q x.0) ≡ b → found nat_cmp xs q ≡ found nat_cmp ys q
      placed true is =
          let q_is : q ≡ x.0 = eq_is q x.0 is in
          found-below x.0 q xs above_x (omega arith) ∙ sym (found-below y.0 q ys above_y (omega arith))
      placed false is =
          let is_y : is_eq (nat_cmp q y.0) ≡ false = ap (λ (n : ℕ). is_eq (nat_cmp q n)) (sym key) ∙ is in
          sym (ap (λ b. cond b (Some x.1) (found nat_cmp xs q)) is) ∙ same q ∙ ap (λ b. cond b (Some y.1) (found nat_cmp ys q)) is_y

  same-first : (x y : ℕ × X) (xs ys : Table ℕ X) → x.0 ≡ y.0 → Same (x ∷ xs) (y ∷ ys) → x ≡ y
  same-first x y xs ys key same =
      let here : found nat_cmp (x ∷ xs) x.0 ≡ Some x.1 = first-found x xs in
      let there : found nat_cmp (y ∷ ys) x.0 ≡ Some y.1 = ap (λ (n : ℕ). found nat_cmp (y ∷ ys) n) key ∙ first-found y ys in
      let one : found nat_cmp (x ∷ xs) x.0 ≡ found nat_cmp (y ∷ ys) x.0 = same x.0 in
      let value : x.1 ≡ y.1 = cc in
      ap (λ (n : ℕ). let z : ℕ × X = (n, x.1) in z) key ∙ ap (λ (v : X). let z : ℕ × X = (y.0, v) in z) value

  same-tables : (xs ys : Table ℕ X) → Rises xs → Rises ys → Same xs ys → xs ≡ ys
  same-tables [] [] a b same = refl
  same-tables [] (y ∷ ys) a b same =
      let there : found nat_cmp (y ∷ ys) y.0 ≡ Some y.1 = first-found y ys in
      let one : None ≡ found nat_cmp (y ∷ ys) y.0 = same y.0 in absurd cc
  same-tables (x ∷ xs) [] a b same =
      let here : found nat_cmp (x ∷ xs) x.0 ≡ Some x.1 = first-found x xs in
      let one : found nat_cmp (x ∷ xs) x.0 ≡ None = same x.0 in absurd cc
  same-tables (x ∷ xs) (y ∷ ys) a b same = placed (nat_cmp x.0 y.0) refl (same-tables xs ys a.1 b.1)
    where
      placed : (o : Ordering) → nat_cmp x.0 y.0 ≡ o → (Same xs ys → xs ≡ ys) → x ∷ xs ≡ y ∷ ys
      placed Less is rest = absurd (never-first x y xs ys b.0 (is_less x.0 y.0 is) same)
      placed Greater is rest = absurd (never-first y x ys xs a.0 (is_greater x.0 y.0 is) (λ q. sym (same q)))
      placed Equal is rest =
          let key : x.0 ≡ y.0 = equals x.0 y.0 is in
          ap (λ (z : ℕ × X). z ∷ xs) (same-first x y xs ys key same) ∙ ap (λ (zs : Table ℕ X). y ∷ zs) (rest (rest-same x y xs ys key a.0 b.0 same))

  -- ONE TRANSACTION LESS, the others in any order
  pub differ-distinct : (es : List (ℕ × X)) → IsDistinct nat_eq (keys_of es) → TxsDiffer es
  unfolding IsDistinct
  differ-distinct [] distinct = tt
  differ-distinct (e ∷ es) distinct = (none es distinct.0, differ-distinct es distinct.1)
    where
      turned : (u : ℕ) → nat_eq e.0 u ≡ false → (u == e.0) ≡ false
      turned u h = grind arith

      none : (xs : List (ℕ × X)) → AllByRecursion (λ u. nat_eq e.0 u ≡ false) (keys_of xs) → has_tx e.0 xs ≡ false
      none [] all = refl
      none (x ∷ xs) all = or_from (x.0 == e.0) (has_tx e.0 xs) (turned x.0 all.0) (none xs all.1)

  pub filed-less : (old new : List (ℕ × X)) (t : ℕ) → TxsDiffer old → TxsDiffer new
      → ((q : ℕ) → lookup (nat_eq q) new ≡ cond (nat_eq t q) None (lookup (nat_eq q) old)) → filed [] new ≡ without nat_cmp (filed [] old) t
  filed-less old new t apart apart_new reads =
      same-tables (filed [] new) (without nat_cmp (filed [] old) t) (rises-filed [] new tt) (rises-without t (filed [] old) (rises-filed [] old tt)) same
    where
      turned : (q : ℕ) → nat_eq t q ≡ is_eq (nat_cmp q t)
      turned q = grind arith

      same : (q : ℕ) → found nat_cmp (filed [] new) q ≡ found nat_cmp (without nat_cmp (filed [] old) t) q
      same q =
          sym (found-by_number new q apart_new) ∙ reads q
          ∙ ap (λ b. cond b None (lookup (nat_eq q) old)) (turned q) ∙ ap (cond (is_eq (nat_cmp q t)) None) (found-by_number old q apart)
          ∙ sym (found-without t q (filed [] old) (rises-filed [] old tt))
