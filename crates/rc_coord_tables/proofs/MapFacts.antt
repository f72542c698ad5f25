-- What a table shows of a list.
use Rattle.std.proofs.Common.{◌≡◌, ℕ, ◌==◌, nat_eq, Bool, true, false, cond, List, [], ◌∷◌, Some, None, refl, sym, ap, subst, ◌∙◌, arith}
use Rattle.std.proofs.lemmas.Bool.{or_parts}
use Rattle.std.specs.declared.cmp.Ordering.{Ordering}
use Rattle.std.specs.declared.cmp.Ordering.TheVariants.{Less, Equal, Greater}
use Rattle.std.specs.Ordering.{nat_cmp, is_eq, match_ordering}
use Rattle.std.specs.Option.{option_map}
use Rattle.std.specs.Map.{lookup, set_value}
use Rattle.indexmap.specs.IndexMap.{insert_entry as in_order}
use Rattle.rc_ids.specs.Tables.{Table, found, put, without}
use Rattle.rc_body.specs.Pages.{has_tx, TxsDiffer}
use Rattle.rc_record.specs.InOrder.{filed}
use Rattle.rc_body.proofs.PartFacts.{TxsDiffer-in_order}
use Rattle.rc_record.proofs.ByNumber.{filed-in_order}
use Rattle.rc_node.proofs.NumberFacts.{found-by_number, filed-less}
use Rattle.rc_coord_tables.specs.Maps.{mapped, shown_by, AllAre, IsList}

-- the new list has all but this transaction
abbrev pub LessOne : {X : Type 0} → List (ℕ × X) → List (ℕ × X) → ℕ → Type 0
LessOne old new t = (q : ℕ) → lookup (nat_eq q) new ≡ cond (nat_eq t q) None (lookup (nat_eq q) old)

itself : (n : ℕ) → nat_eq n n ≡ true
itself n = grind arith

same_number : (t u : ℕ) → nat_eq t u ≡ true → t ≡ u
same_number t u h = grind arith

turned : (t u : ℕ) → (u == t) ≡ false → nat_eq t u ≡ false
turned t u h = grind arith

absent-lookup : {X : Type 0} (es : List (ℕ × X)) (t : ℕ) → has_tx t es ≡ false → lookup (nat_eq t) es ≡ None
absent-lookup [] t none = refl
absent-lookup (e ∷ es) t none =
    let parts = or_parts (e.0 == t) (has_tx t es) none in
    ap (λ b. cond b (Some e.1) (lookup (nat_eq t) es)) (turned t e.0 parts.0) ∙ absent-lookup es t parts.1

-- a value that is there is replaced in its place
pub set_is : {X : Type 0} (es : List (ℕ × X)) (t : ℕ) (y x : X) → lookup (nat_eq t) es ≡ Some y → set_value (nat_eq t) es x ≡ in_order nat_eq es t x
set_is [] t y x there = absurd cc
set_is (e ∷ es) t y x there = at (nat_eq t e.0) there (set_is es t y x)
  where
    at : (b : Bool) → cond b (Some e.1) (lookup (nat_eq t) es) ≡ Some y → (lookup (nat_eq t) es ≡ Some y → set_value (nat_eq t) es x ≡ in_order nat_eq es t x)
        → cond b ((e.0, x) ∷ es) (e ∷ set_value (nat_eq t) es x) ≡ cond b ((e.0, x) ∷ es) (e ∷ in_order nat_eq es t x)
    at true there rest = refl
    at false there rest = ap (λ es. e ∷ es) (rest there)

module _ {X Y : Type 0} (f : X → Y) where
  pub mapped-found : (table : Table ℕ X) (t : ℕ) → found nat_cmp (mapped f table) t ≡ option_map f (found nat_cmp table t)
  mapped-found [] t = refl
  mapped-found (e ∷ es) t = at (is_eq (nat_cmp t e.0)) (mapped-found es t)
    where
      at : (b : Bool) → found nat_cmp (mapped f es) t ≡ option_map f (found nat_cmp es t)
          → cond b (Some (f e.1)) (found nat_cmp (mapped f es) t) ≡ option_map f (cond b (Some e.1) (found nat_cmp es t))
      at true rest = refl
      at false rest = rest

  pub mapped-put : (table : Table ℕ X) (t : ℕ) (x : X) → mapped f (put nat_cmp table t x) ≡ put nat_cmp (mapped f table) t (f x)
  mapped-put [] t x = refl
  mapped-put (e ∷ es) t x = at (nat_cmp t e.0) (mapped-put es t x)
    where
      at : (o : Ordering) → mapped f (put nat_cmp es t x) ≡ put nat_cmp (mapped f es) t (f x)
          → mapped f (match_ordering o ((t, x) ∷ e ∷ es) ((e.0, x) ∷ es) (e ∷ put nat_cmp es t x))
          ≡ match_ordering o ((t, f x) ∷ (e.0, f e.1) ∷ mapped f es) ((e.0, f x) ∷ mapped f es) ((e.0, f e.1) ∷ put nat_cmp (mapped f es) t (f x))
      at Less rest = refl
      at Equal rest = refl
      at Greater rest = ap (λ (ys : List (ℕ × Y)). (e.0, f e.1) ∷ ys) rest

  pub mapped-without : (table : Table ℕ X) (t : ℕ) → mapped f (without nat_cmp table t) ≡ without nat_cmp (mapped f table) t
  mapped-without [] t = refl
  mapped-without (e ∷ es) t = at (is_eq (nat_cmp t e.0)) (mapped-without es t)
    where
      at : (b : Bool) → mapped f (without nat_cmp es t) ≡ without nat_cmp (mapped f es) t
          → mapped f (cond b es (e ∷ without nat_cmp es t)) ≡ cond b (mapped f es) ((e.0, f e.1) ∷ without nat_cmp (mapped f es) t)
      at true rest = refl
      at false rest = ap (λ (ys : List (ℕ × Y)). (e.0, f e.1) ∷ ys) rest

  -- A LIST, SEEN BY NUMBER
  pub shown-found : (es : List (ℕ × X)) (t : ℕ) → TxsDiffer es → found nat_cmp (shown_by f es) t ≡ option_map f (lookup (nat_eq t) es)
  shown-found es t apart = mapped-found (filed [] es) t ∙ sym (ap (option_map f) (found-by_number es t apart))

  pub shown-in_order : (es : List (ℕ × X)) (t : ℕ) (x : X) → TxsDiffer es → shown_by f (in_order nat_eq es t x) ≡ put nat_cmp (shown_by f es) t (f x)
  shown-in_order es t x apart = ap (mapped f) (filed-in_order [] es t x apart) ∙ mapped-put (filed [] es) t x

  -- one transaction less, the others in any order
  pub shown-less : (old new : List (ℕ × X)) (t : ℕ) → TxsDiffer old → TxsDiffer new → LessOne old new t → shown_by f new ≡ without nat_cmp (shown_by f old) t
  shown-less old new t apart apart_new less = ap (mapped f) (filed-less old new t apart apart_new less) ∙ mapped-without (filed [] old) t

  pub shown-set : (es : List (ℕ × X)) (t : ℕ) (y x : X) → TxsDiffer es → lookup (nat_eq t) es ≡ Some y
      → shown_by f (set_value (nat_eq t) es x) ≡ put nat_cmp (shown_by f es) t (f x)
  shown-set es t y x apart there = ap (shown_by f) (set_is es t y x there) ∙ shown-in_order es t x apart

-- the same value changes nothing
pub set_same : {X : Type 0} (es : List (ℕ × X)) (t : ℕ) (y : X) → lookup (nat_eq t) es ≡ Some y → set_value (nat_eq t) es y ≡ es
set_same [] t y there = refl
set_same (e ∷ es) t y there = at (nat_eq t e.0) there (set_same es t y)
  where
    at : (b : Bool) → cond b (Some e.1) (lookup (nat_eq t) es) ≡ Some y → (lookup (nat_eq t) es ≡ Some y → set_value (nat_eq t) es y ≡ es)
        → cond b ((e.0, y) ∷ es) (e ∷ set_value (nat_eq t) es y) ≡ e ∷ es
    at true there rest = let same : e.1 ≡ y = cc in ap (λ z. (e.0, z) ∷ es) (sym same)
    at false there rest = ap (λ es. e ∷ es) (rest there)

module _ {X : Type 0} (P : X → Type 0) where
  all-in_order : (es : List (ℕ × X)) (t : ℕ) (x : X) → AllAre P es → P x → AllAre P (in_order nat_eq es t x)
  all-in_order [] t x all one = (one, tt)
  all-in_order (e ∷ es) t x all one = at (nat_eq t e.0) (all-in_order es t x all.1 one)
    where
      at : (b : Bool) → AllAre P (in_order nat_eq es t x) → AllAre P (cond b ((e.0, x) ∷ es) (e ∷ in_order nat_eq es t x))
      at true rest = (one, all.1)
      at false rest = (all.0, rest)

  pub all-found : (es : List (ℕ × X)) (t : ℕ) (x : X) → AllAre P es → lookup (nat_eq t) es ≡ Some x → P x
  all-found [] t x all there = absurd cc
  all-found (e ∷ es) t x all there = at (nat_eq t e.0) there (all-found es t x all.1)
    where
      at : (b : Bool) → cond b (Some e.1) (lookup (nat_eq t) es) ≡ Some x → (lookup (nat_eq t) es ≡ Some x → P x) → P x
      at true there rest = let same : e.1 ≡ x = cc in subst P same all.0
      at false there rest = rest there

  -- WHAT EACH CHANGE KEEPS
  pub keeps-in_order : (es : List (ℕ × X)) (t : ℕ) (x : X) → IsList P es → P x → IsList P (in_order nat_eq es t x)
  keeps-in_order es t x old one = record { apart = TxsDiffer-in_order es t x old.apart; fit = all-in_order es t x old.fit one }

  -- each that is found is as it has to be
  all-from : (es : List (ℕ × X)) → TxsDiffer es → ((q : ℕ) (x : X) → lookup (nat_eq q) es ≡ Some x → P x) → AllAre P es
  all-from [] apart from = tt
  all-from (e ∷ es) apart from =
      (from e.0 e.1 (ap (λ b. cond b (Some e.1) (lookup (nat_eq e.0) es)) (itself e.0)), all-from es apart.1 (λ q x there. from q x (later q x there)))
    where
      later : (q : ℕ) (x : X) → lookup (nat_eq q) es ≡ Some x → cond (nat_eq q e.0) (Some e.1) (lookup (nat_eq q) es) ≡ Some x
      later q x there = at (nat_eq q e.0) refl
        where
          at : (b : Bool) → nat_eq q e.0 ≡ b → cond b (Some e.1) (lookup (nat_eq q) es) ≡ Some x
          at true is =
              let none : lookup (nat_eq q) es ≡ None = absent-lookup es q (ap (λ (n : ℕ). has_tx n es) (same_number q e.0 is) ∙ apart.0) in absurd cc
          at false is = there

  pub keeps-less : (old new : List (ℕ × X)) (t : ℕ) → IsList P old → TxsDiffer new → LessOne old new t → IsList P new
  keeps-less old new t list apart less = record { apart = apart; fit = all-from new apart (λ q x there. was q x (sym (less q) ∙ there)) }
    where
      was : (q : ℕ) (x : X) → cond (nat_eq t q) None (lookup (nat_eq q) old) ≡ Some x → P x
      was q x there = at (nat_eq t q) there
        where
          at : (b : Bool) → cond b None (lookup (nat_eq q) old) ≡ Some x → P x
          at true e = absurd cc
          at false e = all-found old q x list.fit e

  pub keeps-set : (es : List (ℕ × X)) (t : ℕ) (y x : X) → IsList P es → lookup (nat_eq t) es ≡ Some y → P x → IsList P (set_value (nat_eq t) es x)
  keeps-set es t y x old there one = subst (IsList P) (sym (set_is es t y x there)) (keeps-in_order es t x old one)
