-- The three laws of quorums, from the weights.
use Rattle.std.proofs.Common.{◌≡◌, ℕ, zero, suc, ◌+◌, ◌<◌, ◌≤◌, List, [], ◌∷◌, ◌++◌, refl, sym, ◌∙◌, ap, Bool, true, false, cond, arith, ◌⊎◌, inl, inr, ⊎_elim, length}
use Rattle.std.specs.Prelude.{◌||◌, sum}
use Rattle.std.specs.List.{list_all}
use Rattle.std.specs.Ordering.{nat_cmp, is_eq}
use Rattle.std.proofs.lemmas.Bool.{false≢true, ltb-true, lt-ltb, cases_lt}
use Rattle.std.proofs.lemmas.List.Sums.{sum_by-cons}
use Rattle.rc_ids.specs.Tables.{In, member, up_to}
use Rattle.rc_ids.specs.Cluster.{Layout, IsLayout, weight_from, is_dc, all_dcs, are_weights, is_weight}
use Rattle.rc_ids.specs.Quorum.{QuorumLaws}
use Rattle.rc_ids.proofs.LayoutFacts.{dc_count_range}
use Rattle.rc_ids.specs.Marks.{tied}

same : (a b : ℕ) → is_eq (nat_cmp a b) ≡ true → b ≡ a
same a b is = grind arith

-- a member stands in the list
pub in-member : (set : List ℕ) (d : ℕ) → member nat_cmp set d ≡ true → In d set
in-member [] d is = absurd (false≢true is)
in-member (x ∷ set) d is = go (is_eq (nat_cmp d x)) refl (in-member set d)
  where
    go : (v : Bool) → is_eq (nat_cmp d x) ≡ v → (member nat_cmp set d ≡ true → In d set) → In d (x ∷ set)
    go true e rest = inl (same d x e)
    go false e rest =
        let later : member nat_cmp set d ≡ true = sym (ap (λ (v : Bool). v || member nat_cmp set d) e) ∙ is in
        inr (rest later)

or_right : (a b : Bool) → b ≡ true → (a || b) ≡ true
or_right true b e = refl
or_right false b e = e

-- what stands in the list is a member
pub member-in : (set : List ℕ) (d : ℕ) → In d set → member nat_cmp set d ≡ true
member-in [] d h = absurd h
member-in (x ∷ set) d (inl e) = let r : is_eq (nat_cmp d x) ≡ true = rw e (tied d) in rw r
member-in (x ∷ set) d (inr h) = or_right (is_eq (nat_cmp d x)) (member nat_cmp set d) (member-in set d h)

weight_more : (d : ℕ) (ws p q : List ℕ) → ((e : ℕ) → In e p → In e q) → weight_from d ws p ≤ weight_from d ws q
weight_more d [] p q sub = omega arith
weight_more d (w ∷ ws) p q sub = go (weight_more (suc d) ws p q sub) (member nat_cmp p d) refl
  where
    go : weight_from (suc d) ws p ≤ weight_from (suc d) ws q → (v : Bool) → member nat_cmp p d ≡ v
        → cond v w 0 + weight_from (suc d) ws p ≤ cond (member nat_cmp q d) w 0 + weight_from (suc d) ws q
    go rest true is =
        let h : member nat_cmp q d ≡ true = member-in q d (sub d (in-member p d is)) in rw h (omega (arith, rest))
    go rest false is = omega (arith, rest)

-- two sets share a datacentre, or weigh no more than all together
meet : (d : ℕ) (ws p q : List ℕ)
    → ((e : ℕ) × In e p × In e q × (d ≤ e) × (e < d + length ws)) ⊎ (weight_from d ws p + weight_from d ws q ≤ sum ws)
meet d [] p q = inr (omega arith)
meet d (w ∷ ws) p q = go (meet (suc d) ws p q) (member nat_cmp p d) (member nat_cmp q d) refl refl
  where
    go : ((e : ℕ) × In e p × In e q × (suc d ≤ e) × (e < suc d + length ws)) ⊎ (weight_from (suc d) ws p + weight_from (suc d) ws q ≤ sum ws)
        → (u v : Bool) → member nat_cmp p d ≡ u → member nat_cmp q d ≡ v
        → ((e : ℕ) × In e p × In e q × (d ≤ e) × (e < d + suc (length ws)))
        ⊎ ((cond u w 0 + weight_from (suc d) ws p) + (cond v w 0 + weight_from (suc d) ws q) ≤ sum (w ∷ ws))
    go (inl h) u v a b = inl (h.0, h.1, h.2, omega (arith, h.3), omega (arith, h.4))
    go (inr le) true true a b = inl (d, in-member p d a, in-member q d b, omega arith, omega arith)
    go (inr le) true false a b = inr (omega (arith, sum_by-cons (λ (x : ℕ). x) w ws))
    go (inr le) false true a b = inr (omega (arith, sum_by-cons (λ (x : ℕ). x) w ws))
    go (inr le) false false a b = inr (omega (arith, sum_by-cons (λ (x : ℕ). x) w ws))

weight_all : (d : ℕ) (ws set : List ℕ) → ((k : ℕ) → d ≤ k → k < d + length ws → In k set) → weight_from d ws set ≡ sum ws
weight_all d [] set h = refl
weight_all d (w ∷ ws) set h =
    let here : member nat_cmp set d ≡ true = member-in set d (h d (omega arith) (omega arith)) in
    let rest = weight_all (suc d) ws set (λ k low high. h k (omega arith) (omega arith)) in
    rw here (omega (arith, rest, sum_by-cons (λ (x : ℕ). x) w ws))

in_left : (x : ℕ) (xs ys : List ℕ) → In x xs → In x (xs ++ ys)
in_left x [] ys h = absurd h
in_left x (y ∷ xs) ys (inl e) = inl e
in_left x (y ∷ xs) ys (inr h) = inr (in_left x xs ys h)

in_right : (x : ℕ) (xs ys : List ℕ) → In x ys → In x (xs ++ ys)
in_right x [] ys h = h
in_right x (y ∷ xs) ys h = inr (in_right x xs ys h)

-- each number from 1 to n stands in the list of them
pub in-up_to : (n k : ℕ) → 1 ≤ k → k < suc n → In k (up_to n)
in-up_to zero k low high = absurd (omega arith)
in-up_to (suc n) k low high =
    ⊎_elim
    (λ (lt : k < suc n). in_left k (up_to n) (suc n ∷ []) (in-up_to n k low lt))
    (λ (le : suc n ≤ k). let e : suc n ≡ k = omega arith in in_right k (up_to n) (suc n ∷ []) (inl e))
    (cases_lt k (suc n))

-- the weights sum to more than 0 where there is one
some_weight : (ws : List ℕ) → 1 ≤ length ws → list_all is_weight ws ≡ true → 0 < sum ws
some_weight [] some all = absurd (omega arith)
some_weight (w ∷ ws) some all =
    let one : 1 ≤ w = grind arith in omega (arith, sum_by-cons (λ (x : ℕ). x) w ws)

weights_of : (n : ℕ) (ws : List ℕ) → are_weights n ws ≡ true → (length ws ≡ n) × (list_all is_weight ws ≡ true)
weights_of n ws is = (grind arith, grind arith)

is_dc-range : (c : Layout) (d : ℕ) → 1 ≤ d → d ≤ c.dcs → is_dc c d ≡ true
is_dc-range c d low high = grind arith

pub quorum_laws : (c : Layout) → IsLayout c → QuorumLaws c
quorum_laws c h =
    let each = weights_of c.dcs c.weights h.weights in
    let count = dc_count_range c.dcs h.dcs in
    record {
      share = λ a b x y.
          ⊎_elim
          (λ (s : (e : ℕ) × In e a × In e b × (1 ≤ e) × (e < 1 + length c.weights)).
          (s.0, s.1, s.2, is_dc-range c s.0 s.3 (omega (arith, s.4))))
          (λ (le : weight_from 1 c.weights a + weight_from 1 c.weights b ≤ sum c.weights).
          let u = ltb-true _ _ x in let v = ltb-true _ _ y in absurd (omega arith))
          (meet 1 c.weights a b);
      more = λ a b sub x.
          let u = ltb-true _ _ x in let v = weight_more 1 c.weights a b sub in lt-ltb _ _ (omega arith);
      all =
          let e = weight_all 1 c.weights (all_dcs c) (λ k low high. in-up_to c.dcs k low (omega arith)) in
          let s = some_weight c.weights (omega arith) each.1 in lt-ltb _ _ (omega arith);
    }
