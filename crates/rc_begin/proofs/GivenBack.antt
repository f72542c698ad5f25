-- The farm has the disks of nodes back, one after another.
use Rattle.std.proofs.Common.{◌≡◌, ℕ, zero, suc, ◌+◌, ◌*◌, ◌/◌, ◌<◌, ◌≤◌, Bool, true, false, List, [], ◌∷◌, ◌++◌, length, Some, IfSome, refl, sym, ap, ◌∙◌, subst, arith, ◌⊎◌, inl, inr, ⊎_elim, length-append}
use Rattle.std.specs.Prelude.{◌≢◌, ◌%◌, slice_get}
use Rattle.std.proofs.lemmas.Option.{slice_get_within}
use Rattle.std.proofs.lemmas.List.{append-nil}
use Rattle.rc_ids.specs.Cluster.{Layout}
use Rattle.rc_ids.specs.declared.names.NodeId.{NodeId}
use Rattle.rc_ids.specs.declared.names.NodeId.TheVariants.{Coord}
use Rattle.rc_disk.specs.declared.power.Power.TheVariants.{On}
use Rattle.rc_disk.specs.Calls.{Told}
use Rattle.rc_disk.specs.Places.{Standing}
use Rattle.rc_devices.specs.Disks.{IsKept}
use Rattle.rc_begin.specs.Places.{coord_name, shard_name, AllAt}

-- the farm has the disks of these hosts back, and no other changed
pub record HaveBack {H : Type 0} (Is : H → Told → Type 0) (name : ℕ → NodeId) (lent_old lent : NodeId → Bool) (old new : NodeId → Standing) (hosts : List H) : Type 0 where
  pub free : (place : ℕ) → place < length hosts → lent (name place) ≡ false
  pub told : (ended : NodeId → Told) → ((place : ℕ) → place < length hosts → IfSome (new (name place)).told (λ t. IsKept t (ended (name place)))) → AllAt (λ place h. Is h (ended (name place))) hosts
  pub on : (place : ℕ) → place < length hosts → (new (name place)).power ≡ On
  pub others_lent : (n : NodeId) → ((place : ℕ) → place < length hosts → n ≢ name place) → lent n ≡ lent_old n
  pub others : (n : NodeId) → ((place : ℕ) → place < length hosts → n ≢ name place) → new n ≡ old n

-- two places are those of two nodes
pub record AreApart (name : ℕ → NodeId) : Type 0 where
  pub apart : (i j : ℕ) → name i ≡ name j → i ≡ j

-- ONE HOST MORE
get_front : {X : Type 0} (xs : List X) (y : X) (i : ℕ) → i < length xs → slice_get (xs ++ y ∷ []) i ≡ slice_get xs i
get_front [] y i h = absurd (omega arith)
get_front (x ∷ xs) y zero h = refl
get_front (x ∷ xs) y (suc i) h = let k : i < length xs = omega arith in get_front xs y i k

get_end : {X : Type 0} (xs : List X) (y : X) → slice_get (xs ++ y ∷ []) (length xs) ≡ Some y
get_end [] y = refl
get_end (x ∷ xs) y = get_end xs y

same_some : {X : Type 0} (x y : X) → Some x ≡ Some y → x ≡ y
same_some x y e = cc

below_or : (i n : ℕ) → i < n + 1 → (i < n) ⊎ (i ≡ n)
below_or zero zero h = inr refl
below_or zero (suc n) h = inl (omega arith)
below_or (suc i) zero h = absurd (omega arith)
below_or (suc i) (suc n) h =
    let k : i < n + 1 = omega arith in
    ⊎_elim (λ (lt : i < n). inl (omega arith)) (λ (e : i ≡ n). inr (ap suc e)) (below_or i n k)

within_more : {X : Type 0} (xs : List X) (y : X) (i : ℕ) → i < length (xs ++ y ∷ []) → (i < length xs) ⊎ (i ≡ length xs)
within_more xs y i h = below_or i (length xs) (subst (λ (n : ℕ). i < n) (length-append xs (y ∷ [])) h)

module _ {H : Type 0} (Is : H → Told → Type 0) (name : ℕ → NodeId) (lent_old lent lent_now : NodeId → Bool) (old mid new : NodeId → Standing) (hosts : List H) (h : H) (are : AreApart name) where
  before_end : (place : ℕ) → place < length hosts → name place ≡ name (length hosts) → ⊥
  before_end place lt e = let same : place ≡ length hosts = are.apart place (length hosts) e in omega (arith, same, lt)

  still_within : (place : ℕ) → place < length hosts → place < length (hosts ++ h ∷ [])
  still_within place lt = let k = length-append hosts (h ∷ []) in omega (arith, k, lt)

  end_within : length hosts < length (hosts ++ h ∷ [])
  end_within = let k = length-append hosts (h ∷ []) in omega (arith, k)

  pub one_back : HaveBack Is name lent_old lent old mid hosts → lent_now (name (length hosts)) ≡ false
      → ((ended : Told) → IfSome (new (name (length hosts))).told (λ t. IsKept t ended) → Is h ended) → (new (name (length hosts))).power ≡ On
      → ((n : NodeId) → n ≢ name (length hosts) → lent_now n ≡ lent n) → ((n : NodeId) → n ≢ name (length hosts) → new n ≡ mid n)
      → HaveBack Is name lent_old lent_now old new (hosts ++ h ∷ [])
  one_back back free told on others_lent others = record {
    free = λ place within.
        ⊎_elim
        (λ (lt : place < length hosts). others_lent (name place) (before_end place lt) ∙ back.free place lt)
        (λ (same : place ≡ length hosts). subst (λ (k : ℕ). lent_now (name k) ≡ false) (sym same) free)
        (within_more hosts h place within);
    told = λ ended kept place g at.
        ⊎_elim
        (λ (lt : place < length hosts).
        back.told ended
        (λ k below. subst (λ (s : Standing). IfSome s.told (λ t. IsKept t (ended (name k)))) (others (name k) (before_end k below)) (kept k (still_within k below)))
        place g (sym (get_front hosts h place lt) ∙ at))
        (λ (same : place ≡ length hosts).
        let here : h ≡ g = same_some h g (sym (get_end hosts h) ∙ subst (λ (k : ℕ). slice_get (hosts ++ h ∷ []) k ≡ Some g) same at) in
        subst (λ (k : ℕ). Is g (ended (name k))) (sym same) (subst (λ (x : H). Is x (ended (name (length hosts)))) here (told (ended (name (length hosts))) (kept (length hosts) end_within))))
        (within_more hosts h place (slice_get_within (hosts ++ h ∷ []) place g at));
    on = λ place within.
        ⊎_elim
        (λ (lt : place < length hosts). ap (λ (s : Standing). s.power) (others (name place) (before_end place lt)) ∙ back.on place lt)
        (λ (same : place ≡ length hosts). subst (λ (k : ℕ). (new (name k)).power ≡ On) (sym same) on)
        (within_more hosts h place within);
    others_lent = λ n away. others_lent n (away (length hosts) end_within) ∙ back.others_lent n (λ place lt. away place (still_within place lt));
    others = λ n away. others n (away (length hosts) end_within) ∙ back.others n (λ place lt. away place (still_within place lt));
  }

module _ {H : Type 0} (Is : H → Told → Type 0) (name : ℕ → NodeId) (lent_old lent lent_now : NodeId → Bool) (old mid new : NodeId → Standing) (hosts : List H) (h : H) (are : AreApart name) where
  pub one_back_at : (node : NodeId) → node ≡ name (length hosts) → HaveBack Is name lent_old lent old mid hosts → lent_now node ≡ false
      → ((ended : Told) → IfSome (new node).told (λ t. IsKept t ended) → Is h ended) → (new node).power ≡ On
      → ((n : NodeId) → n ≢ node → lent_now n ≡ lent n) → ((n : NodeId) → n ≢ node → new n ≡ mid n)
      → HaveBack Is name lent_old lent_now old new (hosts ++ h ∷ [])
  one_back_at node is back free told on others_lent others =
      one_back Is name lent_old lent lent_now old mid new hosts h are back
      (subst (λ (n : NodeId). lent_now n ≡ false) is free)
      (λ ended kept. told ended (subst (λ (n : NodeId). IfSome (new n).told (λ t. IsKept t ended)) (sym is) kept))
      (subst (λ (n : NodeId). (new n).power ≡ On) is on)
      (λ n away. others_lent n (λ same. away (same ∙ is)))
      (λ n away. others n (λ same. away (same ∙ is)))

-- none is back yet
pub none_back : {H : Type 0} (Is : H → Told → Type 0) (name : ℕ → NodeId) (lent : NodeId → Bool) (stands : NodeId → Standing) → HaveBack Is name lent lent stands stands []
none_back Is name lent stands = record {
  free = λ place lt. absurd (omega (arith, lt));
  told = λ ended kept place h at. absurd (cc);
  on = λ place lt. absurd (omega (arith, lt));
  others_lent = λ n away. refl;
  others = λ n away. refl;
}

-- a disk that is not back yet is lent still
pub lent_still : {H : Type 0} (Is : H → Told → Type 0) (name : ℕ → NodeId) (lent_old lent : NodeId → Bool) (old new : NodeId → Standing) (hosts : List H) (place : ℕ)
    → AreApart name → HaveBack Is name lent_old lent old new hosts → length hosts ≤ place → lent_old (name place) ≡ true → lent (name place) ≡ true
lent_still Is name lent_old lent old new hosts place are back le was =
    back.others_lent (name place) (λ k lt e. let same : place ≡ k = are.apart place k e in omega (arith, same, lt, le)) ∙ was

-- HOSTS THAT ARE LEFT
pub some_left : {H : Type 0} (done left rest all : List H) (h : H) → done ++ left ≡ all → left ≡ h ∷ rest → length done < length all
some_left done left rest all h is next =
    let a : length done + length left ≡ length all = sym (length-append done left) ∙ ap length is in
    let b : length left ≡ suc (length rest) = ap length next in
    omega (arith, a, b)

pub next_left : {H : Type 0} (done left rest all : List H) (h : H) → done ++ left ≡ all → left ≡ h ∷ rest → (done ++ h ∷ []) ++ rest ≡ all
next_left done left rest all h is next = append_one done ∙ ap (λ (ls : List _). done ++ ls) (sym next) ∙ is
  where
    append_one : (xs : List _) → (xs ++ h ∷ []) ++ rest ≡ xs ++ h ∷ rest
    append_one [] = refl
    append_one (x ∷ xs) = ap (λ (ls : List _). x ∷ ls) (append_one xs)

pub none_left : {H : Type 0} (done left all : List H) → done ++ left ≡ all → length left ≡ 0 → done ≡ all
none_left done [] all is none = sym (append-nil done) ∙ is
none_left done (h ∷ rest) all is none = absurd (omega arith)

pub back_all : {H : Type 0} (Is : H → Told → Type 0) (name : ℕ → NodeId) (lent_old lent : NodeId → Bool) (old new : NodeId → Standing) (done all : List H)
    → HaveBack Is name lent_old lent old new done → done ≡ all → HaveBack Is name lent_old lent old new all
back_all Is name lent_old lent old new done all back same = subst (HaveBack Is name lent_old lent old new) same back

-- NAMES
pub coords_apart : AreApart coord_name
coords_apart = record { apart = λ i j e. same i j e }
  where
    same : (i j : ℕ) → Coord (suc i) ≡ Coord (suc j) → i ≡ j
    same i j e = cc

same_parts : (i j s : ℕ) → 1 ≤ s → i / s ≡ j / s → i % s ≡ j % s → i ≡ j
same_parts i j s low quotients rests =
    let a : s * (i / s) + i % s ≡ i = omega (arith, low) in
    let b : s * (j / s) + j % s ≡ j = omega (arith, low) in
    sym a ∙ ap (λ (n : ℕ). s * n + i % s) quotients ∙ ap (λ (n : ℕ). s * (j / s) + n) rests ∙ b

pub shards_apart : (c : Layout) → 1 ≤ c.shards → AreApart (shard_name c)
shards_apart c low = record { apart = λ i j e. same_parts i j c.shards low (of_dcs i j e) (of_shards i j e) }
  where
    of_dcs : (i j : ℕ) → shard_name c i ≡ shard_name c j → i / c.shards ≡ j / c.shards
    of_dcs i j e = cc

    of_shards : (i j : ℕ) → shard_name c i ≡ shard_name c j → i % c.shards ≡ j % c.shards
    of_shards i j e = cc

pub some_shards : (place count : ℕ) (c : Layout) → place < count → count ≤ c.dcs * c.shards → 1 ≤ c.shards
some_shards place count c some few = low c.shards (omega (arith, some, few))
  where
    low : (s : ℕ) → place < c.dcs * s → 1 ≤ s
    low zero lt = absurd (omega (arith, lt))
    low (suc s) lt = omega arith

-- what is kept by the names of an equal cluster is told
pub told_at : {H : Type 0} (Is : H → Told → Type 0) (c : Layout) (lent_old lent : NodeId → Bool) (old new : NodeId → Standing) (hosts : List H) → HaveBack Is (shard_name c) lent_old lent old new hosts
    → (k : Layout) → k ≡ c → (ended : NodeId → Told) → ((place : ℕ) → place < length hosts → IfSome (new (shard_name k place)).told (λ t. IsKept t (ended (shard_name k place))))
    → AllAt (λ place h. Is h (ended (shard_name k place))) hosts
told_at Is c lent_old lent old new hosts back k same ended =
    subst
    (λ (l : Layout). ((place : ℕ) → place < length hosts → IfSome (new (shard_name l place)).told (λ t. IsKept t (ended (shard_name l place)))) → AllAt (λ place h. Is h (ended (shard_name l place))) hosts)
    (sym same) (back.told ended)
