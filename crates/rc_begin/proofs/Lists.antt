-- Lists of which one entry is set, and what stands at their places.
use Rattle.std.proofs.Common.{◌≡◌, ℕ, zero, suc, ◌<◌, ◌≤◌, ◌+◌, ◌-◌, ◌*◌, true, List, [], ◌∷◌, length, Some, refl, sym, ◌∙◌, ap, subst, arith, ◌⊎◌, inl, inr, ⊎_elim}
use Rattle.std.specs.Prelude.{slice_get, slice_set, ◌%◌}
use Rattle.std.specs.List.{AllByRecursion}
use Rattle.std.proofs.Math.Nat.{mul-le-mul_left}
use Rattle.std.proofs.lemmas.Bool.Decides.{nat_tests}
use Rattle.std.proofs.lemmas.List.{length-set}
use Rattle.std.proofs.lemmas.Option.{slice_get_within}
use Rattle.std.proofs.lemmas.Nat.{div-mul-add, mod-mul-add}
use Rattle.rc_ids.specs.Cluster.{Layout, is_dc}
use Rattle.rc_ids.specs.declared.names.NodeId.TheVariants.{Coord, Shard as ShardServer}
use Rattle.rc_protocol.specs.Nodes.{coord_index, shard_index}
use Rattle.rc_runs.specs.World.{is_shard_of}
use Rattle.rc_runs.specs.Devices.{Device}
use Rattle.rc_begin.specs.Places.{coord_name, shard_name, AreAt, AllAt}

pub set_same : {X : Type 0} (xs : List X) (i : ℕ) (x : X) → slice_get xs i ≡ Some x → slice_set xs i x ≡ xs
set_same [] i x at = refl
set_same (y ∷ xs) zero x at = let e : x ≡ y = (cc) in ap (λ (z : _). z ∷ xs) e
set_same (y ∷ xs) (suc i) x at = ap (λ (ys : List _). y ∷ ys) (set_same xs i x at)

pub set_at : {X : Type 0} (xs : List X) (i : ℕ) (y : X) → i < length xs → slice_get (slice_set xs i y) i ≡ Some y
set_at [] i y h = absurd (omega arith)
set_at (x ∷ xs) zero y h = refl
set_at (x ∷ xs) (suc i) y h = let k : i < length xs = omega arith in set_at xs i y k

pub set_other : {X : Type 0} (xs : List X) (i j : ℕ) (y : X) → (j ≡ i → ⊥) → slice_get (slice_set xs i y) j ≡ slice_get xs j
set_other [] i j y h = refl
set_other (x ∷ xs) zero zero y h = absurd (h refl)
set_other (x ∷ xs) zero (suc j) y h = refl
set_other (x ∷ xs) (suc i) zero y h = refl
set_other (x ∷ xs) (suc i) (suc j) y h = set_other xs i j y (λ e. h (ap suc e))

pub same_or : (i j : ℕ) → (j ≡ i) ⊎ (j ≡ i → ⊥)
same_or zero zero = inl refl
same_or zero (suc j) = inr (λ e. cc)
same_or (suc i) zero = inr (λ e. cc)
same_or (suc i) (suc j) = ⊎_elim (λ e. inl (ap suc e)) (λ n. inr (λ e. n (omega (arith, e)))) (same_or i j)

-- within the list something stands at the place, and what holds of all holds of that
pub stands : {X : Type 0} (xs : List X) (i : ℕ) → i < length xs → (x : X) × (slice_get xs i ≡ Some x)
stands [] i h = absurd (omega arith)
stands (x ∷ xs) zero h = (x, refl)
stands (x ∷ xs) (suc i) h = let k : i < length xs = omega arith in stands xs i k

pub all_at : {X : Type 0} (P : X → Type 0) (xs : List X) (i : ℕ) (x : X) → AllByRecursion P xs → slice_get xs i ≡ Some x → P x
all_at P [] i x all at = absurd (cc)
all_at P (y ∷ xs) zero x all at = let e : y ≡ x = (cc) in subst P e all.0
all_at P (y ∷ xs) (suc i) x all at = all_at P xs i x all.1 at

-- one host, its node and its device change
module _ {H X : Type 0} (Is : ℕ → H → X → Device → Type 0) (hosts : List H) (nodes : List X) (devices : List Device) (are : AreAt Is hosts nodes devices) where
  pub one_changes : (i : ℕ) (h : H) (x : X) (d : Device) → i < length hosts → Is i h x d → AreAt Is (slice_set hosts i h) (slice_set nodes i x) (slice_set devices i d)
  one_changes i h x d within is = record {
    as_nodes = length-set nodes i x ∙ are.as_nodes ∙ sym (length-set hosts i h);
    as_devices = length-set devices i d ∙ are.as_devices ∙ sym (length-set hosts i h);
    each = λ j g y e at_host at_node at_device.
        ⊎_elim
        (λ (same : j ≡ i).
        let here : slice_get (slice_set hosts i h) i ≡ Some g = subst (λ (k : ℕ). slice_get (slice_set hosts i h) k ≡ Some g) same at_host in
        let node : slice_get (slice_set nodes i x) i ≡ Some y = subst (λ (k : ℕ). slice_get (slice_set nodes i x) k ≡ Some y) same at_node in
        let device : slice_get (slice_set devices i d) i ≡ Some e = subst (λ (k : ℕ). slice_get (slice_set devices i d) k ≡ Some e) same at_device in
        let within_nodes : i < length nodes = subst (λ (n : ℕ). i < n) (sym are.as_nodes) within in
        let within_devices : i < length devices = subst (λ (n : ℕ). i < n) (sym are.as_devices) within in
        let of_host : h ≡ g = (let e : Some h ≡ Some g = sym (set_at hosts i h within) ∙ here in cc) in
        let of_node : x ≡ y = (let e : Some x ≡ Some y = sym (set_at nodes i x within_nodes) ∙ node in cc) in
        let of_device : d ≡ e = (let k : Some d ≡ Some e = sym (set_at devices i d within_devices) ∙ device in cc) in
        subst (λ (k : ℕ). Is k g y e) (sym same) (subst (λ (u : H). Is i u y e) of_host (subst (λ (u : X). Is i h u e) of_node (subst (Is i h x) of_device is))))
        (λ (other : j ≡ i → ⊥). are.each j g y e (sym (set_other hosts i j h other) ∙ at_host) (sym (set_other nodes i j x other) ∙ at_node) (sym (set_other devices i j d other) ∙ at_device))
        (same_or i j);
  }

pub all_before : {H : Type 0} (P : ℕ → H → Type 0) (hosts : List H) (i : ℕ) (h g : H) → slice_get hosts i ≡ Some h → (P i g → P i h) → AllAt P (slice_set hosts i g) → AllAt P hosts
all_before P hosts i h g at back all j k at_k =
    ⊎_elim
    (λ (same : j ≡ i).
    let of_host : h ≡ k = (let e : Some h ≡ Some k = sym at ∙ subst (λ (n : ℕ). slice_get hosts n ≡ Some k) same at_k in cc) in
    subst (λ (n : ℕ). P n k) (sym same) (subst (P i) of_host (back (all i g (set_at hosts i g (slice_get_within hosts i h at))))))
    (λ (other : j ≡ i → ⊥). all j k (set_other hosts i j g other ∙ at_k))
    (same_or i j)

-- NAMES
pub coord_named : (d : ℕ) → 1 ≤ d → coord_name (coord_index d) ≡ Coord d
coord_named d low = let e : suc (d - 1) ≡ d = omega (arith, low) in ap Coord e

pub shard_named : (c : Layout) (d sh : ℕ) → 1 ≤ d → 1 ≤ sh → sh ≤ c.shards → shard_name c (shard_index c d sh) ≡ ShardServer d sh
shard_named c d sh low_d low_sh high =
    let below : sh - 1 < c.shards = omega (arith, low_sh, high) in
    let dc : suc (d - 1) ≡ d = omega (arith, low_d) in
    let shard : suc (sh - 1) ≡ sh = omega (arith, low_sh) in
    ap (λ (n : ℕ). ShardServer (suc n) (suc (shard_index c d sh % c.shards))) (div-mul-add (d - 1) c.shards (sh - 1) below)
    ∙ ap (λ (n : ℕ). ShardServer (suc (d - 1)) (suc n)) (mod-mul-add (d - 1) c.shards (sh - 1) below)
    ∙ ap (λ (n : ℕ). ShardServer n (suc (sh - 1))) dc ∙ ap (ShardServer d) shard

pub within_all : (d dcs s r : ℕ) → d < dcs → r < s → d * s + r < dcs * s
within_all d dcs s r below small =
    let next : suc d ≤ dcs = omega (arith, below) in
    let k : s * suc d ≤ s * dcs = mul-le-mul_left s next in
    let left : s * suc d ≡ d * s + s = grind (arith) in
    let right : s * dcs ≡ dcs * s = grind (arith) in
    omega (arith, k, left, right, small)

-- who is of the world
pub low_dc : (c : Layout) (d sh : ℕ) → is_shard_of c d sh ≡ true → 1 ≤ d
low_dc c d sh there = grind (arith, nat_tests)

pub high_dc : (c : Layout) (d sh : ℕ) → is_shard_of c d sh ≡ true → d ≤ c.dcs
high_dc c d sh there = grind (arith, nat_tests)

pub low_shard : (c : Layout) (d sh : ℕ) → is_shard_of c d sh ≡ true → 1 ≤ sh
low_shard c d sh there = grind (arith, nat_tests)

pub high_shard : (c : Layout) (d sh : ℕ) → is_shard_of c d sh ≡ true → sh ≤ c.shards
high_shard c d sh there = grind (arith, nat_tests)

pub name_is : (c : Layout) (d sh : ℕ) → is_shard_of c d sh ≡ true → shard_name c (shard_index c d sh) ≡ ShardServer d sh
name_is c d sh there = shard_named c d sh (low_dc c d sh there) (low_shard c d sh there) (high_shard c d sh there)

pub place_within : (c : Layout) (d sh : ℕ) → is_shard_of c d sh ≡ true → shard_index c d sh < c.dcs * c.shards
place_within c d sh there =
    let low_d = low_dc c d sh there in
    let high_d = high_dc c d sh there in
    let low_s = low_shard c d sh there in
    let high_s = high_shard c d sh there in
    let dc : d - 1 < c.dcs = omega (arith, low_d, high_d) in
    let shard : sh - 1 < c.shards = omega (arith, low_s, high_s) in
    within_all (d - 1) c.dcs c.shards (sh - 1) dc shard

pub is_of_world : (c : Layout) (d : ℕ) → 1 ≤ d → coord_index d < c.dcs → is_dc c d ≡ true
is_of_world c d low within = grind (arith, nat_tests)
