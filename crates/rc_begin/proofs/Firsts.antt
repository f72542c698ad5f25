-- Nodes that are among the first to begin.
use Rattle.std.proofs.Common.{◌≡◌, ℕ, zero, suc, ◌+◌, ◌-◌, ◌*◌, ◌<◌, ◌≤◌, Bool, true, false, refl, sym, ap, ◌∙◌, subst, arith, ◌⊎◌, inl, inr, ⊎_elim}
use Rattle.std.specs.Prelude.{◌≢◌, ◌&&◌, nat_le, nat_lt}
use Rattle.std.proofs.Math.Nat.{mul-le-mul_left}
use Rattle.rc_ids.specs.Cluster.{Layout, is_shard}
use Rattle.rc_ids.specs.declared.names.NodeId.{NodeId}
use Rattle.rc_ids.specs.declared.names.NodeId.TheVariants.{Coord, Shard as ShardServer}
use Rattle.rc_disk.specs.Places.{Standing}
use Rattle.rc_begin.specs.Gatherings.{are_lent}
use Rattle.rc_begin.specs.Starts.{is_node_of, is_among_first, AreLentFirst}
use Rattle.rc_begin.proofs.Lists.{same_or}
use Rattle.rc_begin.proofs.Telling.{no_coord, coord_number, dc_number}

-- NUMBERS
pub more_places : (a b s : ℕ) → a ≤ b → a * s ≤ b * s
more_places a b s le =
    let k : s * a ≤ s * b = mul-le-mul_left s le in
    let left : s * a ≡ a * s = grind (arith) in
    let right : s * b ≡ b * s = grind (arith) in
    omega (arith, k, left, right)

pub next_places : (a s : ℕ) → (a + 1) * s ≡ a * s + s
next_places a s = grind (arith)

-- a place of an earlier datacentre, and of a later one
earlier_place : (d n s : ℕ) → 1 ≤ d → d ≤ n → (d - 1) * s + s ≤ n * s
earlier_place d n s low high =
    let e : (d - 1) + 1 ≡ d = omega (arith, low) in
    let k = more_places d n s high in
    let m : d * s ≡ (d - 1) * s + s = sym (ap (λ (x : ℕ). x * s) e) ∙ next_places (d - 1) s in
    omega (arith, k, m)

later_place : (d n s : ℕ) → n + 1 < d → n * s + s ≤ (d - 1) * s
later_place d n s above =
    let le : n + 1 ≤ d - 1 = omega (arith, above) in
    let k = more_places (n + 1) (d - 1) s le in
    let m = next_places n s in
    omega (arith, k, m)

-- MORE of them
fewer_coords : (k j d : ℕ) → k ≤ j → (nat_le 1 d && nat_le d j) ≡ false → (nat_le 1 d && nat_le d k) ≡ false
fewer_coords k j d le none = grind (arith, le, none)

fewer_shards : (a b : Bool) (i m l : ℕ) → m ≤ l → (a && b && nat_lt i l) ≡ false → (a && b && nat_lt i m) ≡ false
fewer_shards false b i m l le none = refl
fewer_shards true false i m l le none = refl
fewer_shards true true i m l le none = grind (arith, le, none)

pub fewer : (c : Layout) (k j m l : ℕ) → k ≤ j → m ≤ l → (x : NodeId) → is_among_first c j l x ≡ false → is_among_first c k m x ≡ false
fewer c k j m l coords shards (Coord d) none = fewer_coords k j d coords none
fewer c k j m l coords shards (ShardServer d sh) none = fewer_shards (nat_le 1 d) (is_shard c sh) _ m l shards none

-- ALL of them
place_of_dc : (d sh s n x : ℕ) → (1 ≤ d → d ≤ n → x + s ≤ n * s) → (n < d → n * s ≤ x)
    → (nat_le 1 d && (nat_le 1 sh && nat_le sh s) && nat_lt (x + (sh - 1)) (n * s)) ≡ ((nat_le 1 d && nat_le d n) && (nat_le 1 sh && nat_le sh s))
place_of_dc d sh s n x low high = by_cases (n * s) low high
  where
    by_cases : (a : ℕ) → (1 ≤ d → d ≤ n → x + s ≤ a) → (n < d → a ≤ x) → (nat_le 1 d && (nat_le 1 sh && nat_le sh s) && nat_lt (x + (sh - 1)) a) ≡ ((nat_le 1 d && nat_le d n) && (nat_le 1 sh && nat_le sh s))
    by_cases a low high = grind (arith, low, high)

not_below : (d n s : ℕ) → n < d → n * s ≤ (d - 1) * s
not_below d n s above = let le : n ≤ d - 1 = omega (arith, above) in more_places n (d - 1) s le

pub all_of_them : (c : Layout) (x : NodeId) → is_among_first c c.dcs (c.dcs * c.shards) x ≡ is_node_of c x
all_of_them c (Coord d) = refl
all_of_them c (ShardServer d sh) = place_of_dc d sh c.shards c.dcs ((d - 1) * c.shards) (earlier_place d c.dcs c.shards) (not_below d c.dcs c.shards)

pub none_outside : (c : Layout) (k m : ℕ) → k ≤ c.dcs → m ≤ c.dcs * c.shards → (x : NodeId) → is_node_of c x ≡ false → is_among_first c k m x ≡ false
none_outside c k m coords shards x out = fewer c k c.dcs m (c.dcs * c.shards) coords shards x (all_of_them c x ∙ out)

-- NONE of them
pub none_first : (c : Layout) (m : ℕ) → m ≡ 0 → (x : NodeId) → is_among_first c 0 m x ≡ false
none_first c m none (Coord d) = no_number d
  where
    no_number : (d : ℕ) → (nat_le 1 d && nat_le d 0) ≡ false
    no_number d = grind arith
none_first c m none (ShardServer d sh) = subst (λ (k : ℕ). (nat_le 1 d && is_shard c sh && nat_lt ((d - 1) * c.shards + (sh - 1)) k) ≡ false) (sym none) (no_place (nat_le 1 d) (is_shard c sh) _)
  where
    no_place : (a b : Bool) (i : ℕ) → (a && b && nat_lt i 0) ≡ false
    no_place a b i = grind arith

-- A DATACENTRE MORE
pub next_coord_free : (c : Layout) (n m : ℕ) → is_among_first c n m (Coord (n + 1)) ≡ false
next_coord_free c n m = free n
  where
    free : (n : ℕ) → (nat_le 1 (n + 1) && nat_le (n + 1) n) ≡ false
    free n = grind arith

pub next_server_free : (c : Layout) (n sh : ℕ) → is_among_first c n (n * c.shards) (ShardServer (n + 1) sh) ≡ false
next_server_free c n sh =
    let same : (n + 1) - 1 ≡ n = omega arith in
    ap (λ (k : ℕ). nat_le 1 (n + 1) && is_shard c sh && nat_lt (k * c.shards + (sh - 1)) (n * c.shards)) same ∙ free (nat_le 1 (n + 1)) (is_shard c sh) (n * c.shards) (sh - 1)
  where
    free : (a b : Bool) (x i : ℕ) → (a && b && nat_lt (x + i) x) ≡ false
    free a b x i = grind arith

module _ (c : Layout) (old new : NodeId → Bool) (n k m : ℕ) (before : AreLentFirst old c n (n * c.shards))
    (coord : new (Coord (n + 1)) ≡ nat_lt n k) (many : n ≤ k) (few : k ≤ n + 1)
    (servers : (sh : ℕ) → new (ShardServer (n + 1) sh) ≡ are_lent (m - n * c.shards) sh) (many_shards : n * c.shards ≤ m) (few_shards : m ≤ n * c.shards + c.shards)
    (others : (x : NodeId) → x ≢ Coord (n + 1) → ((sh : ℕ) → x ≢ ShardServer (n + 1) sh) → new x ≡ old x) where
  this_coord : (n k : ℕ) → nat_lt n k ≡ (nat_le 1 (n + 1) && nat_le (n + 1) k)
  this_coord n k = grind arith

  other_coord : (n k d : ℕ) → n ≤ k → k ≤ n + 1 → (d ≡ n + 1 → ⊥) → (nat_le 1 d && nat_le d n) ≡ (nat_le 1 d && nat_le d k)
  other_coord n k d many few other = grind (arith, many, few, other)

  this_one : (t s a m : ℕ) → a ≤ m → m ≤ a + s → nat_le (t + 1) (m - a) ≡ (nat_le (t + 1) s && nat_lt (a + t) m)
  this_one t s a m many few = grind (arith, many, few)

  low : (k : ℕ) → nat_le 1 (k + 1) ≡ true
  low k = grind arith

  this_server : (n sh s a m : ℕ) → a ≤ m → m ≤ a + s → (nat_le 1 sh && nat_le sh (m - a)) ≡ (nat_le 1 (n + 1) && (nat_le 1 sh && nat_le sh s) && nat_lt (a + (sh - 1)) m)
  this_server n zero s a m many few = grind (arith, low n)
  this_server n (suc t) s a m many few = grind (arith, low n, low t, this_one t s a m many few)

  both_one : (t s x a m : ℕ) → a ≤ m → x + s ≤ a → (nat_le (t + 1) s && nat_lt (x + t) a) ≡ (nat_le (t + 1) s && nat_lt (x + t) m)
  both_one t s x a m many below = grind (arith, many, below)

  both_hold : (w : Bool) (sh s x a m : ℕ) → a ≤ m → x + s ≤ a → (w && (nat_le 1 sh && nat_le sh s) && nat_lt (x + (sh - 1)) a) ≡ (w && (nat_le 1 sh && nat_le sh s) && nat_lt (x + (sh - 1)) m)
  both_hold w zero s x a m many below = grind arith
  both_hold w (suc t) s x a m many below = grind (arith, low t, both_one t s x a m many below)

  none_holds : (w v : Bool) (i x a s m : ℕ) → a ≤ m → m ≤ a + s → a + s ≤ x → (w && v && nat_lt (x + i) a) ≡ (w && v && nat_lt (x + i) m)
  none_holds w v i x a s m many few high = grind (arith, many, few, high)

  up_to_or : (d n : ℕ) → (d ≡ n + 1 → ⊥) → (d ≤ n) ⊎ (n + 1 < d)
  up_to_or zero n other = inl (omega arith)
  up_to_or (suc d) zero other = inr (not_one d other)
    where
      not_one : (d : ℕ) → (suc d ≡ 1 → ⊥) → 1 < suc d
      not_one zero other = absurd (other refl)
      not_one (suc d) other = omega arith
  up_to_or (suc d) (suc n) other =
      ⊎_elim (λ (le : d ≤ n). inl (omega (arith, le))) (λ (lt : n + 1 < d). inr (omega (arith, lt))) (up_to_or d n (λ e. other (ap suc e ∙ next n)))
    where
      next : (n : ℕ) → suc (n + 1) ≡ suc n + 1
      next n = omega arith

  other_server : (n d sh s x a m : ℕ) → a ≤ m → m ≤ a + s → (d ≡ n + 1 → ⊥) → (1 ≤ d → d ≤ n → x + s ≤ a) → (n + 1 < d → a + s ≤ x)
      → (nat_le 1 d && (nat_le 1 sh && nat_le sh s) && nat_lt (x + (sh - 1)) a) ≡ (nat_le 1 d && (nat_le 1 sh && nat_le sh s) && nat_lt (x + (sh - 1)) m)
  other_server n zero sh s x a m many few other early late = none_of_zero (nat_le 1 sh && nat_le sh s) (nat_lt (x + (sh - 1)) a) (nat_lt (x + (sh - 1)) m)
    where
      none_of_zero : (v y z : Bool) → (nat_le 1 0 && v && y) ≡ (nat_le 1 0 && v && z)
      none_of_zero v y z = refl
  other_server n (suc d) sh s x a m many few other early late =
      ⊎_elim
      (λ (le : suc d ≤ n). both_hold (nat_le 1 (suc d)) sh s x a m many (early (omega arith) le))
      (λ (lt : n + 1 < suc d). none_holds (nat_le 1 (suc d)) (nat_le 1 sh && nat_le sh s) (sh - 1) x a s m many few (late lt))
      (up_to_or (suc d) n other)

  pub lent_dc : AreLentFirst new c k m
  lent_dc (Coord d) =
      ⊎_elim
      (λ (same : d ≡ n + 1). subst (λ (e : ℕ). new (Coord e) ≡ (nat_le 1 e && nat_le e k)) (sym same) (coord ∙ this_coord n k))
      (λ (other : d ≡ n + 1 → ⊥). others (Coord d) (λ e. other (coord_number (n + 1) d e)) (λ sh e. no_coord d (n + 1) sh (sym e)) ∙ before (Coord d) ∙ other_coord n k d many few other)
      (same_or (n + 1) d)
  lent_dc (ShardServer d sh) =
      ⊎_elim
      (λ (same : d ≡ n + 1).
      let back : (n + 1) - 1 ≡ n = omega arith in
      subst (λ (e : ℕ). new (ShardServer e sh) ≡ is_among_first c k m (ShardServer e sh)) (sym same)
      (servers sh ∙ this_server n sh c.shards (n * c.shards) m many_shards few_shards
      ∙ sym (ap (λ (e : ℕ). nat_le 1 (n + 1) && is_shard c sh && nat_lt (e * c.shards + (sh - 1)) m) back)))
      (λ (other : d ≡ n + 1 → ⊥).
      others (ShardServer d sh) (λ e. no_coord (n + 1) d sh e) (λ th e. other (dc_number (n + 1) th d sh e)) ∙ before (ShardServer d sh)
      ∙ other_server n d sh c.shards ((d - 1) * c.shards) (n * c.shards) m many_shards few_shards other (earlier_place d n c.shards) (later_place d n c.shards))
      (same_or (n + 1) d)

-- all its nodes are lent, and the disks that the farm has are as at the start
pub home_dc : (c : Layout) (n : ℕ) (start old new : NodeId → Standing) (lent_old lent_new : NodeId → Bool) → AreLentFirst lent_old c n (n * c.shards) → AreLentFirst lent_new c (n + 1) ((n + 1) * c.shards)
    → ((x : NodeId) → x ≢ Coord (n + 1) → ((sh : ℕ) → is_shard c sh ≡ true → x ≢ ShardServer (n + 1) sh) → new x ≡ old x)
    → ((x : NodeId) → lent_old x ≡ false → old x ≡ start x) → (x : NodeId) → lent_new x ≡ false → new x ≡ start x
home_dc c n start old new lent_old lent_new first now others before x free =
    let out : is_among_first c (n + 1) ((n + 1) * c.shards) x ≡ false = sym (now x) ∙ free in
    let next = next_places n c.shards in
    let more : n * c.shards ≤ (n + 1) * c.shards = omega (arith, next) in
    others x (λ e. no_coord_here n (subst (λ (y : NodeId). is_among_first c (n + 1) ((n + 1) * c.shards) y ≡ false) e out))
    (λ sh known e. no_server_here sh known (subst (λ (y : NodeId). is_among_first c (n + 1) ((n + 1) * c.shards) y ≡ false) e out))
    ∙ before x (first x ∙ fewer c n (n + 1) (n * c.shards) ((n + 1) * c.shards) (omega arith) more x out)
  where
    no_coord_here : (n : ℕ) → (nat_le 1 (n + 1) && nat_le (n + 1) (n + 1)) ≡ false → ⊥
    no_coord_here n out = grind (arith, out)

    server_here : (n sh s x a b : ℕ) → x ≡ a → b ≡ a + s → (nat_le 1 sh && nat_le sh s) ≡ true → (nat_le 1 (n + 1) && (nat_le 1 sh && nat_le sh s) && nat_lt (x + (sh - 1)) b) ≡ true
    server_here n sh s x a b at is known = grind (arith, at, is, known)

    no_server_here : (sh : ℕ) → is_shard c sh ≡ true → is_among_first c (n + 1) ((n + 1) * c.shards) (ShardServer (n + 1) sh) ≡ false → ⊥
    no_server_here sh known out =
        let back : (n + 1) - 1 ≡ n = omega arith in
        let e : true ≡ false = sym (server_here n sh c.shards (((n + 1) - 1) * c.shards) (n * c.shards) ((n + 1) * c.shards) (ap (λ (k : ℕ). k * c.shards) back) (next_places n c.shards) known) ∙ out in
        cc

-- the same, by the lengths of the lists before
pub lent_after : (c : Layout) (old new : NodeId → Bool) (n i j k m : ℕ) → i ≡ n → j ≡ n * c.shards → AreLentFirst old c n (n * c.shards)
    → new (Coord (n + 1)) ≡ nat_lt i k → i ≤ k → k ≤ i + 1
    → ((sh : ℕ) → new (ShardServer (n + 1) sh) ≡ are_lent (m - j) sh) → j ≤ m → m ≤ j + c.shards
    → ((x : NodeId) → x ≢ Coord (n + 1) → ((sh : ℕ) → x ≢ ShardServer (n + 1) sh) → new x ≡ old x) → AreLentFirst new c k m
lent_after c old new n i j k m is_coords is_shards before coord many few servers many_shards few_shards others =
    lent_dc c old new n k m before (coord ∙ ap (λ (a : ℕ). nat_lt a k) is_coords) (omega (arith, is_coords, many)) (omega (arith, is_coords, few))
    (λ sh. servers sh ∙ ap (λ (a : ℕ). are_lent (m - a) sh) is_shards) (omega (arith, is_shards, many_shards)) (omega (arith, is_shards, few_shards)) others

pub first_as : (c : Layout) (x : NodeId) (k j m l : ℕ) → k ≡ j → m ≡ l → is_among_first c k m x ≡ is_among_first c j l x
first_as c x k j m l coords shards = ap (λ (a : ℕ). is_among_first c a m x) coords ∙ ap (λ (a : ℕ). is_among_first c j a x) shards

pub fewer_before : (c : Layout) (n i j k m : ℕ) → i ≡ n → j ≡ n * c.shards → i ≤ k → j ≤ m → (x : NodeId) → is_among_first c k m x ≡ false → is_among_first c n (n * c.shards) x ≡ false
fewer_before c n i j k m is_coords is_shards coords shards x none = sym (first_as c x i n j (n * c.shards) is_coords is_shards) ∙ fewer c i k j m coords shards x none
