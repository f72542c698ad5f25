-- Grants in another order: their datacentres, and the best of them.
use Rattle.std.proofs.Common.{◌≡◌, ℕ, ◌<◌, ◌≤◌, Bool, true, false, cond, List, [], ◌∷◌, ◌++◌, Option, Some, None, refl, sym, ap, ◌∙◌, arith, ⊎_elim}
use Rattle.std.specs.Prelude.{nat_lt}
use Rattle.std.specs.declared.cmp.Ordering.TheVariants.{Less, Equal, Greater}
use Rattle.std.specs.Ordering.{nat_cmp}
use Rattle.std.specs.Cmp.{nat_cmp_is}
use Rattle.std.specs.BTreeSet.{insert_key}
use Rattle.std.proofs.lemmas.Bool.{cases_lt, ltb-true, ltb-false}
use Rattle.rc_ids.specs.Tables.{added, maybe}
use Rattle.rc_protocol.specs.Client.{Grant, granted_by, best_grant}
use Rattle.rc_read.specs.Reads.{pick, better, best_of}

-- a smaller number goes first, one that is there changes nothing, and a larger one goes on
ins_less : (k x : ℕ) (xs : List ℕ) → k < x → insert_key nat_cmp (x ∷ xs) k ≡ k ∷ x ∷ xs
ins_less k x xs lt = let e : nat_cmp k x ≡ Less = sym (nat_cmp_is k x Less lt) in rw e refl

ins_same : (k x : ℕ) (xs : List ℕ) → k ≡ x → insert_key nat_cmp (x ∷ xs) k ≡ x ∷ xs
ins_same k x xs is = let e : nat_cmp k x ≡ Equal = sym (nat_cmp_is k x Equal is) in rw e refl

ins_more : (k x : ℕ) (xs : List ℕ) → x < k → insert_key nat_cmp (x ∷ xs) k ≡ x ∷ insert_key nat_cmp xs k
ins_more k x xs gt = let e : nat_cmp k x ≡ Greater = sym (nat_cmp_is k x Greater gt) in rw e refl

-- below, the same, or above
by_place : {P : Type 0} (a b : ℕ) → (a < b → P) → (a ≡ b → P) → (b < a → P) → P
by_place a b below same above =
    ⊎_elim below (λ (le : b ≤ a). ⊎_elim above (λ (ge : a ≤ b). same (omega arith)) (cases_lt b a)) (cases_lt a b)

-- below the first, also where a larger one was put in before
goes_first : (a b x : ℕ) (xs : List ℕ) → a < b → a < x → insert_key nat_cmp (insert_key nat_cmp (x ∷ xs) b) a ≡ a ∷ insert_key nat_cmp (x ∷ xs) b
goes_first a b x xs lt below =
    by_place b x
    (λ (l : b < x). let e = ins_less b x xs l in rw e (ins_less a b (x ∷ xs) lt))
    (λ (s : b ≡ x). let e = ins_same b x xs s in rw e (ins_less a x xs below))
    (λ (g : x < b). let e = ins_more b x xs g in rw e (ins_less a x (insert_key nat_cmp xs b) below))

swapped : (a b : ℕ) (xs : List ℕ) → a < b → insert_key nat_cmp (insert_key nat_cmp xs a) b ≡ insert_key nat_cmp (insert_key nat_cmp xs b) a
swapped a b [] lt = ins_more b a [] lt ∙ sym (ins_less a b [] lt)
swapped a b (x ∷ xs) lt =
    by_place a x
    (λ (l : a < x).
    ap (λ ys. insert_key nat_cmp ys b) (ins_less a x xs l) ∙ ins_more b a (x ∷ xs) lt ∙ sym (goes_first a b x xs lt l))
    (λ (s : a ≡ x).
    let g : x < b = omega arith in
    ap (λ ys. insert_key nat_cmp ys b) (ins_same a x xs s)
    ∙ ins_more b x xs g ∙ sym (ins_same a x (insert_key nat_cmp xs b) s) ∙ sym (ap (λ ys. insert_key nat_cmp ys a) (ins_more b x xs g)))
    (λ (g : x < a).
    let h : x < b = omega arith in
    ap (λ ys. insert_key nat_cmp ys b) (ins_more a x xs g)
    ∙ ins_more b x (insert_key nat_cmp xs a) h ∙ ap (λ ys. x ∷ ys) (swapped a b xs lt)
    ∙ sym (ins_more a x (insert_key nat_cmp xs b) g) ∙ sym (ap (λ ys. insert_key nat_cmp ys a) (ins_more b x xs h)))

-- two are put in in either order
in_any_order : (a b : ℕ) (xs : List ℕ) → insert_key nat_cmp (insert_key nat_cmp xs a) b ≡ insert_key nat_cmp (insert_key nat_cmp xs b) a
in_any_order a b xs =
    by_place a b
    (λ (l : a < b). swapped a b xs l)
    (λ (s : a ≡ b). ap (λ (n : ℕ). insert_key nat_cmp (insert_key nat_cmp xs a) n) (sym s) ∙ ap (λ (n : ℕ). insert_key nat_cmp (insert_key nat_cmp xs n) a) s)
    (λ (g : b < a). sym (swapped b a xs g))

-- a grant more is its datacentre more
pub granted_more : (gs : List Grant) (g : Grant) → granted_by (gs ++ g ∷ []) ≡ added nat_cmp (granted_by gs) g.dc
granted_more [] g = refl
granted_more (x ∷ gs) g = ap (λ set. added nat_cmp set x.dc) (granted_more gs g) ∙ in_any_order g.dc x.dc (granted_by gs)

-- THE BEST
-- by whether the first is below the second, the second below the third, and the first below the third
pick_from : (x y g : Grant) (p q r : Bool) → nat_lt x.version y.version ≡ p → nat_lt y.version g.version ≡ q → nat_lt x.version g.version ≡ r
    → pick x (pick y g) ≡ pick (pick x y) g
pick_from x y g true true true a b c = rw (a, b, c) refl
pick_from x y g true true false a b c =
    let l = ltb-true _ _ a in let m = ltb-true _ _ b in let n = ltb-false _ _ c in absurd (omega arith)
pick_from x y g true false r a b c = rw (a, b, a) refl
pick_from x y g false true r a b c = rw (a, b) refl
pick_from x y g false false true a b c =
    let l = ltb-false _ _ a in let m = ltb-false _ _ b in let n = ltb-true _ _ c in absurd (omega arith)
pick_from x y g false false false a b c = rw (a, b, a, c) refl

pick_all : (x y g : Grant) → pick x (pick y g) ≡ pick (pick x y) g
pick_all x y g = pick_from x y g _ _ _ refl refl refl

better_more : (x : Grant) (o : Option Grant) (g : Grant) → pick x (better o g) ≡ pick (maybe o x (pick x)) g
better_more x None g = refl
better_more x (Some y) g = pick_all x y g

-- a grant more is weighed against the best before
pub best_more : (gs : List Grant) (g : Grant) → best_of (gs ++ g ∷ []) ≡ Some (better (best_of gs) g)
best_more [] g = refl
best_more (x ∷ gs) g =
    ap (λ o. Some (maybe o x (pick x))) (best_more gs g) ∙ ap (λ y. Some y) (better_more x (best_of gs) g)

-- it is the best of the rows
abbrev paired : Option Grant → ℕ × Option (List ℕ)
paired o = maybe o (0, None) (λ (b : Grant). (b.version, b.value))

none_below : (v : ℕ) → nat_lt v 0 ≡ false
none_below v = grind arith

by_version : (g : Grant) (o : Option Grant)
    → cond (nat_lt g.version (paired o).0) (paired o) (g.version, g.value) ≡ paired (Some (maybe o g (pick g)))
by_version g None = rw (none_below g.version) refl
by_version g (Some b) = chosen (nat_lt g.version b.version)
  where
    chosen : (p : Bool) → cond p (b.version, b.value) (g.version, g.value) ≡ paired (Some (cond p b g))
    chosen true = refl
    chosen false = refl

pub best_is : (gs : List Grant) → maybe (best_of gs) (0, None) (λ (b : Grant). (b.version, b.value)) ≡ best_grant gs
best_is [] = refl
best_is (g ∷ gs) =
    sym (by_version g (best_of gs)) ∙ ap (λ (p : ℕ × Option (List ℕ)). cond (nat_lt g.version p.0) p (g.version, g.value)) (best_is gs)
