-- Transactions in order: one in its place or at the end, and one less.
use Rattle.std.proofs.Common.{◌≡◌, ℕ, suc, ◌+◌, ◌<◌, ◌≤◌, ◌==◌, nat_eq, nat_lt, Bool, true, false, not, cond, List, [], ◌∷◌, ◌++◌, length, take, drop, slice_set, Option, Some, None, refl, sym, ap, ◌∙◌, arith}
use Rattle.std.specs.List.{position_or_len}
use Rattle.std.specs.Ordering.{nat_cmp, is_eq}
use Rattle.std.proofs.lemmas.Bool.{or_parts, or_from}
use Rattle.indexmap.specs.IndexMap.{insert_entry as in_order}
use Rattle.rc_ids.specs.Tables.{found, without}
use Rattle.rc_body.specs.Pages.{has_tx, TxsDiffer}

order_test : (t u : ℕ) → is_eq (nat_cmp t u) ≡ (u == t)
order_test t u = grind arith

equal_test : (t u : ℕ) → nat_eq t u ≡ (u == t)
equal_test t u = grind arith

same_is : (t u : ℕ) → (u == t) ≡ true → u ≡ t
same_is t u h = grind arith

module _ {X : Type 0} where
  -- the place of a transaction, or the length
  abbrev pub place : List (ℕ × X) → ℕ → ℕ
  place xs t = position_or_len (λ (x : ℕ × X). x.0 == t) xs

  pub record IsPlace (xs : List (ℕ × X)) (t i : ℕ) : Type 0 where
    pub within : i < length xs
    pub is : place xs t ≡ i

  -- what a search for a place tells
  pub found_place : (xs : List (ℕ × X)) (t i : ℕ) → cond (nat_lt (place xs t) (length xs)) (Some (place xs t)) None ≡ Some i → IsPlace xs t i
  found_place xs t i at = chosen (nat_lt (place xs t) (length xs)) refl at
    where
      chosen : (b : Bool) → nat_lt (place xs t) (length xs) ≡ b → cond b (Some (place xs t)) None ≡ Some i → IsPlace xs t i
      chosen true less at = let is : place xs t ≡ i = cc in record { within = grind (arith, less, is); is = is }
      chosen false less at = absurd cc

  absent : (xs : List (ℕ × X)) (t : ℕ) → length xs ≤ place xs t → has_tx t xs ≡ false
  absent [] t le = refl
  absent (e ∷ es) t le = placed (e.0 == t) refl le (absent es t)
    where
      placed : (b : Bool) → (e.0 == t) ≡ b → suc (length es) ≤ cond (not b) (1 + place es t) 0
          → (length es ≤ place es t → has_tx t es ≡ false) → has_tx t (e ∷ es) ≡ false
      placed true is le rest = absurd (omega arith)
      placed false is le rest = or_from (e.0 == t) (has_tx t es) is (rest (omega arith))

  pub no_place : (xs : List (ℕ × X)) (t : ℕ) → cond (nat_lt (place xs t) (length xs)) (Some (place xs t)) None ≡ None → has_tx t xs ≡ false
  no_place xs t none = chosen (nat_lt (place xs t) (length xs)) refl none
    where
      chosen : (b : Bool) → nat_lt (place xs t) (length xs) ≡ b → cond b (Some (place xs t)) None ≡ None → has_tx t xs ≡ false
      chosen true less none = absurd cc
      chosen false less none = absent xs t (grind (arith, less))

  in_order-place : (xs : List (ℕ × X)) (t : ℕ) (v : X) → place xs t < length xs → in_order nat_eq xs t v ≡ slice_set xs (place xs t) (t, v)
  in_order-place [] t v within = absurd (omega arith)
  in_order-place (e ∷ es) t v within =
      ap (λ b. cond b ((e.0, v) ∷ es) (e ∷ in_order nat_eq es t v)) (equal_test t e.0) ∙ placed (e.0 == t) refl within (in_order-place es t v)
    where
      placed : (b : Bool) → (e.0 == t) ≡ b → cond (not b) (1 + place es t) 0 < suc (length es)
          → (place es t < length es → in_order nat_eq es t v ≡ slice_set es (place es t) (t, v))
          → cond b ((e.0, v) ∷ es) (e ∷ in_order nat_eq es t v) ≡ slice_set (e ∷ es) (cond (not b) (1 + place es t) 0) (t, v)
      placed true is within rest = ap (λ u. (u, v) ∷ es) (same_is t e.0 is)
      placed false is within rest =
          let next : suc (place es t) ≡ 1 + place es t = omega arith in
          ap (λ zs. e ∷ zs) (rest (omega arith)) ∙ ap (λ n. slice_set (e ∷ es) n (t, v)) next

  -- in its place
  pub in_order-at : (xs : List (ℕ × X)) (t i : ℕ) (v : X) → IsPlace xs t i → in_order nat_eq xs t v ≡ slice_set xs i (t, v)
  in_order-at xs t i v at =
      let within : place xs t < length xs = let is = at.is in let lt = at.within in omega arith in
      in_order-place xs t v within ∙ ap (λ n. slice_set xs n (t, v)) at.is

  -- at the end
  pub in_order-last : (xs : List (ℕ × X)) (t : ℕ) (v : X) → has_tx t xs ≡ false → in_order nat_eq xs t v ≡ xs ++ (t, v) ∷ []
  in_order-last [] t v none = refl
  in_order-last (e ∷ es) t v none =
      let parts = or_parts (e.0 == t) (has_tx t es) none in
      ap (λ b. cond b ((e.0, v) ∷ es) (e ∷ in_order nat_eq es t v)) (equal_test t e.0 ∙ parts.0) ∙ ap (λ zs. e ∷ zs) (in_order-last es t v parts.1)

  without-place : (xs : List (ℕ × X)) (t : ℕ) → place xs t < length xs → without nat_cmp xs t ≡ take (place xs t) xs ++ drop (suc (place xs t)) xs
  without-place [] t within = absurd (omega arith)
  without-place (e ∷ es) t within =
      ap (λ b. cond b es (e ∷ without nat_cmp es t)) (order_test t e.0) ∙ placed (e.0 == t) within (without-place es t)
    where
      placed : (b : Bool) → cond (not b) (1 + place es t) 0 < suc (length es)
          → (place es t < length es → without nat_cmp es t ≡ take (place es t) es ++ drop (suc (place es t)) es)
          → cond b es (e ∷ without nat_cmp es t) ≡ take (cond (not b) (1 + place es t) 0) (e ∷ es) ++ drop (suc (cond (not b) (1 + place es t) 0)) (e ∷ es)
      placed true within rest = refl
      placed false within rest =
          let next : suc (place es t) ≡ 1 + place es t = omega arith in
          ap (λ zs. e ∷ zs) (rest (omega arith)) ∙ ap (λ n. take n (e ∷ es) ++ drop (suc n) (e ∷ es)) next

  -- without the one at a place
  pub without-at : (xs : List (ℕ × X)) (t i : ℕ) → IsPlace xs t i → without nat_cmp xs t ≡ take i xs ++ drop (suc i) xs
  without-at xs t i at =
      let within : place xs t < length xs = let is = at.is in let lt = at.within in omega arith in
      without-place xs t within ∙ ap (λ n. take n xs ++ drop (suc n) xs) at.is

  -- without one that is not there
  pub without-none : (xs : List (ℕ × X)) (t : ℕ) → has_tx t xs ≡ false → without nat_cmp xs t ≡ xs
  without-none [] t none = refl
  without-none (e ∷ es) t none =
      let parts = or_parts (e.0 == t) (has_tx t es) none in
      ap (λ b. cond b es (e ∷ without nat_cmp es t)) (order_test t e.0 ∙ parts.0) ∙ ap (λ zs. e ∷ zs) (without-none es t parts.1)

  -- NO TRANSACTION TWICE
  none-in_order : (es : List (ℕ × X)) (t u : ℕ) (x : X) → (t == u) ≡ false → has_tx u es ≡ false → has_tx u (in_order nat_eq es t x) ≡ false
  none-in_order [] t u x other none = or_from (t == u) false other refl
  none-in_order (e ∷ es) t u x other none =
      let parts = or_parts (e.0 == u) (has_tx u es) none in placed (nat_eq t e.0) parts.0 parts.1 (none-in_order es t u x other parts.1)
    where
      placed : (b : Bool) → (e.0 == u) ≡ false → has_tx u es ≡ false → has_tx u (in_order nat_eq es t x) ≡ false
          → has_tx u (cond b ((e.0, x) ∷ es) (e ∷ in_order nat_eq es t x)) ≡ false
      placed true p q rest = or_from (e.0 == u) (has_tx u es) p q
      placed false p q rest = or_from (e.0 == u) (has_tx u (in_order nat_eq es t x)) p rest

  pub TxsDiffer-in_order : (es : List (ℕ × X)) (t : ℕ) (x : X) → TxsDiffer es → TxsDiffer (in_order nat_eq es t x)
  TxsDiffer-in_order [] t x apart = (refl, tt)
  TxsDiffer-in_order (e ∷ es) t x apart = placed (nat_eq t e.0) refl (TxsDiffer-in_order es t x apart.1)
    where
      placed : (b : Bool) → nat_eq t e.0 ≡ b → TxsDiffer (in_order nat_eq es t x) → TxsDiffer (cond b ((e.0, x) ∷ es) (e ∷ in_order nat_eq es t x))
      placed true is rest = apart
      placed false is rest = (none-in_order es t e.0 x is apart.0, rest)

  none-without : (es : List (ℕ × X)) (t u : ℕ) → has_tx u es ≡ false → has_tx u (without nat_cmp es t) ≡ false
  none-without [] t u none = refl
  none-without (e ∷ es) t u none =
      let parts = or_parts (e.0 == u) (has_tx u es) none in placed (is_eq (nat_cmp t e.0)) parts.0 parts.1 (none-without es t u parts.1)
    where
      placed : (b : Bool) → (e.0 == u) ≡ false → has_tx u es ≡ false → has_tx u (without nat_cmp es t) ≡ false
          → has_tx u (cond b es (e ∷ without nat_cmp es t)) ≡ false
      placed true p q rest = q
      placed false p q rest = or_from (e.0 == u) (has_tx u (without nat_cmp es t)) p rest

  pub TxsDiffer-without : (es : List (ℕ × X)) (t : ℕ) → TxsDiffer es → TxsDiffer (without nat_cmp es t)
  TxsDiffer-without [] t apart = tt
  TxsDiffer-without (e ∷ es) t apart = placed (is_eq (nat_cmp t e.0)) (TxsDiffer-without es t apart.1)
    where
      placed : (b : Bool) → TxsDiffer (without nat_cmp es t) → TxsDiffer (cond b es (e ∷ without nat_cmp es t))
      placed true rest = apart.1
      placed false rest = (none-without es t e.0 apart.0, rest)

  -- a transaction is found where it is in the list
  pub none-found : (es : List (ℕ × X)) (t : ℕ) → found nat_cmp es t ≡ None → has_tx t es ≡ false
  none-found [] t none = refl
  none-found (e ∷ es) t none = placed (is_eq (nat_cmp t e.0)) refl none (none-found es t)
    where
      placed : (b : Bool) → is_eq (nat_cmp t e.0) ≡ b → cond b (Some e.1) (found nat_cmp es t) ≡ None
          → (found nat_cmp es t ≡ None → has_tx t es ≡ false) → has_tx t (e ∷ es) ≡ false
      placed true is none rest = absurd cc
      placed false is none rest = or_from (e.0 == t) (has_tx t es) (sym (order_test t e.0) ∙ is) (rest none)
