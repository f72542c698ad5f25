-- Rising keys, of which the first ones are not above a key.
use Rattle.std.proofs.Common.{◌≡◌, ℕ, zero, suc, ◌+◌, ◌<◌, ◌≤◌, Bool, true, false, not, cond, List, [], ◌∷◌, length, get_or, refl, ap, arith}
use Rattle.std.specs.declared.cmp.Ordering.{Ordering}
use Rattle.std.specs.declared.cmp.Ordering.TheVariants.{Less, Equal, Greater}
use Rattle.std.specs.Ordering.{is_lt}
use Rattle.std.specs.List.Sorted.{IsPartitionedBy, IsPartitionPoint}
use Rattle.std.proofs.lemmas.Bool.{and_parts}
use Rattle.std.proofs.lemmas.Cmp.{nat_list_cmp_total}
use Rattle.rc_ids.specs.Texts.{key_cmp}
use Rattle.rc_ids.specs.Cluster.{rise, rise_after, shard_from}

-- the split key is not above the key
abbrev pub reaches : List ℕ → List ℕ → Bool
reaches k split = not (is_lt (key_cmp k split))

less_is : (o : Ordering) → is_lt o ≡ true → o ≡ Less
less_is Less e = refl
less_is Equal e = absurd cc
less_is Greater e = absurd cc

below_trans : (a b c : List ℕ) → is_lt (key_cmp a b) ≡ true → is_lt (key_cmp b c) ≡ true → is_lt (key_cmp a c) ≡ true
below_trans a b c h k = ap is_lt (nat_list_cmp_total.trans a b c (less_is (key_cmp a b) h) (less_is (key_cmp b c) k))

-- the key before rising keys is below each of them
first_below : (h : List ℕ) (ks : List (List ℕ)) → rise_after h ks ≡ true → (j : ℕ) (d : List ℕ) → j < length ks → is_lt (key_cmp h (get_or ks j d)) ≡ true
first_below h [] rises j d lt = absurd (omega arith)
first_below h (k ∷ ks) rises zero d lt = (and_parts (is_lt (key_cmp h k)) (rise_after k ks) rises).0
first_below h (k ∷ ks) rises (suc j) d lt =
    let parts = and_parts (is_lt (key_cmp h k)) (rise_after k ks) rises in
    below_trans h k (get_or ks j d) parts.0 (first_below k ks parts.1 j d (omega arith))

-- a key that a split key reaches, each one before it reaches
reaches_before : (k a b : List ℕ) → is_lt (key_cmp a b) ≡ true → reaches k b ≡ true → reaches k a ≡ true
reaches_before k a b below reached = chosen (is_lt (key_cmp k a)) (λ h. below_trans k a b h below)
  where
    chosen : (test : Bool) → (test ≡ true → is_lt (key_cmp k b) ≡ true) → not test ≡ true
    chosen true leads = absurd (cc (leads refl, reached))
    chosen false leads = refl

parted_after : (k h : List ℕ) (ks : List (List ℕ)) → rise_after h ks ≡ true → IsPartitionedBy (reaches k) (h ∷ ks)
parted_after k h ks rises zero zero d le lt reached = reached
parted_after k h ks rises zero (suc j) d le lt reached = reaches_before k h (get_or ks j d) (first_below h ks rises j d (omega arith)) reached
parted_after k h ks rises (suc i) zero d le lt reached = absurd (omega arith)
parted_after k h [] rises (suc i) (suc j) d le lt reached = absurd (omega arith)
parted_after k h (l ∷ ls) rises (suc i) (suc j) d le lt reached =
    parted_after k l ls (and_parts (is_lt (key_cmp h l)) (rise_after l ls) rises).1 i j d (omega arith) (omega arith) reached

-- rising keys reach a key up to one of them, and not from it on
pub parted : (k : List ℕ) (ks : List (List ℕ)) → rise ks ≡ true → IsPartitionedBy (reaches k) ks
parted k [] rises i j d le lt reached = absurd (omega arith)
parted k (h ∷ ks) rises i j d le lt reached = parted_after k h ks rises i j d le lt reached

not_reached : (b : Bool) → not b ≡ false → b ≡ true
not_reached true e = refl
not_reached false e = absurd cc

is_reached : (b : Bool) → not b ≡ true → b ≡ false
is_reached true e = absurd cc
is_reached false e = refl

abbrev of_test : Bool → ℕ
of_test b = cond b 0 1

-- what a split key counts
abbrev step : List ℕ → List ℕ → ℕ
step k split = of_test (is_lt (key_cmp k split))

-- where all fail, none is counted
none_counted : (k : List ℕ) (ks : List (List ℕ)) → ((j : ℕ) (d : List ℕ) → j < length ks → reaches k (get_or ks j d) ≡ false) → shard_from ks k ≡ 1
none_counted k [] fails = refl
none_counted k (h ∷ ks) fails =
    let first : is_lt (key_cmp k h) ≡ true = not_reached (is_lt (key_cmp k h)) (fails 0 [] (omega arith)) in
    let others = none_counted k ks (λ j d lt. fails (suc j) d (omega arith)) in
    let none : step k h ≡ 0 = ap of_test first in
    omega (arith, none, others)

-- the keys that reach it are counted
pub counted : (k : List ℕ) (ks : List (List ℕ)) (i : ℕ) → i ≤ length ks → IsPartitionPoint (λ s. reaches k s ≡ true) (λ s. reaches k s ≡ false) ks i
    → shard_from ks k ≡ i + 1
counted k ks zero le point = none_counted k ks (λ j d lt. point.1 j d (omega arith) lt)
counted k [] (suc i) le point = absurd (omega arith)
counted k (h ∷ ks) (suc i) le point =
    let first : is_lt (key_cmp k h) ≡ false = is_reached (is_lt (key_cmp k h)) (point.0 0 [] (omega arith) (omega arith)) in
    let others = counted k ks i (omega arith) (λ j d low lt. point.0 (suc j) d (omega arith) (omega arith), λ j d low lt. point.1 (suc j) d (omega arith) (omega arith)) in
    let one : step k h ≡ 1 = ap of_test first in
    omega (arith, one, others)
