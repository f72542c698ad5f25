-- The farm has the disks of the first nodes back.
use Rattle.std.proofs.Common.{◌≡◌, ℕ, suc, ◌+◌, ◌-◌, ◌*◌, ◌/◌, ◌<◌, ◌≤◌, Bool, true, false, List, IfSome, refl, sym, ap, ◌∙◌, subst, arith, ◌⊎◌, inl, inr, ⊎_elim}
use Rattle.std.specs.Prelude.{◌≢◌, ◌&&◌, ◌%◌, nat_le, nat_lt, IsTrue}
use Rattle.std.proofs.lemmas.Nat.{mod_below}
use Rattle.rc_ids.specs.Cluster.{Layout, IsLayout, is_dc_count}
use Rattle.rc_ids.specs.declared.names.NodeId.{NodeId}
use Rattle.rc_ids.specs.declared.names.NodeId.TheVariants.{Coord, Shard as ShardServer}
use Rattle.rc_disk.specs.declared.power.Power.TheVariants.{On}
use Rattle.rc_disk.specs.Places.{Standing}
use Rattle.rc_devices.specs.Disks.{IsKept}
use Rattle.rc_host.specs.declared.host.Host.{Host}
use Rattle.rc_protocol.specs.Nodes.{shard_index}
use Rattle.rc_begin.specs.Places.{coord_name, shard_name}
use Rattle.rc_begin.specs.Hosts.{Runs, Views, CoordsAreTold, ShardsAreTold}
use Rattle.rc_begin.specs.Starts.{is_node_of, is_among_first, AreLentFirst, StandsKept, AllStandKept, AllAreTold}
use Rattle.rc_begin.proofs.Lists.{coord_named, shard_named}
use Rattle.rc_begin.proofs.GivenBack.{some_shards}
use Rattle.rc_begin.proofs.Firsts.{none_outside, all_of_them}
use Rattle.rc_begin.proofs.Telling.{no_coord}

true_or : (b : Bool) → (b ≡ true) ⊎ (b ≡ false)
true_or true = inl refl
true_or false = inr refl

never_both : {A : Type 0} (b : Bool) → b ≡ true → b ≡ false → A
never_both b holds fails = absurd (let e : true ≡ false = sym holds ∙ fails in cc)

-- at most seven
pub few_dcs : (k : ℕ) (c : Layout) → IsLayout c → k ≤ c.dcs → k ≤ 7
few_dcs k c is few = let known = is.dcs in at_most k c.dcs known few
  where
    at_most : (k n : ℕ) → IsTrue (is_dc_count n) → k ≤ n → k ≤ 7
    at_most k n known few = grind (arith, known, few)

module _ (c : Layout) (k m : ℕ) (few : k ≤ c.dcs) (few_shards : m ≤ c.dcs * c.shards) where
  -- THE NAMES of the first nodes
  coord_among : (place : ℕ) → place < k → is_among_first c k m (coord_name place) ≡ true
  coord_among place below = within place k below
    where
      within : (place k : ℕ) → place < k → (nat_le 1 (suc place) && nat_le (suc place) k) ≡ true
      within place k below = grind (arith, below)

  shard_among : (place : ℕ) → place < m → is_among_first c k m (shard_name c place) ≡ true
  shard_among place below =
      let low : 1 ≤ c.shards = some_shards place m c below few_shards in
      let rest : place % c.shards < c.shards = mod_below place c.shards low in
      let whole : c.shards * (place / c.shards) + place % c.shards ≡ place = omega (arith, low) in
      within (place / c.shards) (place % c.shards) c.shards place rest whole below
    where
      turned : (q s : ℕ) → (suc q - 1) * s ≡ s * q
      turned q s = let e : suc q - 1 ≡ q = omega arith in ap (λ (n : ℕ). n * s) e ∙ grind arith

      all_so : (q r s x : ℕ) → r < s → x < m → (nat_le 1 (suc q) && (nat_le 1 (suc r) && nat_le (suc r) s) && nat_lt x m) ≡ true
      all_so q r s x small lt = grind (arith, small, lt)

      within : (q r s place : ℕ) → r < s → s * q + r ≡ place → place < m → (nat_le 1 (suc q) && (nat_le 1 (suc r) && nat_le (suc r) s) && nat_lt ((suc q - 1) * s + (suc r - 1)) m) ≡ true
      within q r s place small whole below =
          let back : suc r - 1 ≡ r = omega arith in
          let spot : (suc q - 1) * s + (suc r - 1) ≡ place = ap (λ (n : ℕ). n + (suc r - 1)) (turned q s) ∙ ap (λ (n : ℕ). s * q + n) back ∙ whole in
          all_so q r s ((suc q - 1) * s + (suc r - 1)) small (subst (λ (n : ℕ). n < m) (sym spot) below)

  abbrev IsPlaced : NodeId → Type 0
  IsPlaced n = ((place : ℕ) × (place < k) × (n ≡ coord_name place)) ⊎ (((place : ℕ) × (place < m) × (n ≡ shard_name c place)) ⊎ (is_among_first c k m n ≡ false))

  -- each node is one of the first coordinators, one of the first shard servers, or none of them
  placed : (n : NodeId) → IsPlaced n
  placed (Coord d) =
      ⊎_elim
      (λ holds. let low : 1 ≤ d = low_of d k holds in let high : d ≤ k = high_of d k holds in inl (d - 1, omega (arith, low, high), sym (coord_named d low)))
      (λ fails. inr (inr fails))
      (true_or (is_among_first c k m (Coord d)))
    where
      low_of : (d k : ℕ) → (nat_le 1 d && nat_le d k) ≡ true → 1 ≤ d
      low_of d k holds = grind (arith, holds)

      high_of : (d k : ℕ) → (nat_le 1 d && nat_le d k) ≡ true → d ≤ k
      high_of d k holds = grind (arith, holds)
  placed (ShardServer d sh) =
      ⊎_elim
      (λ holds.
      let x = shard_index c d sh in
      inr (inl (x, lt_of d sh c.shards x holds, sym (shard_named c d sh (low_of d sh c.shards x holds) (low_shard d sh c.shards x holds) (high_shard d sh c.shards x holds)))))
      (λ fails. inr (inr fails))
      (true_or (is_among_first c k m (ShardServer d sh)))
    where
      lt_of : (d sh s x : ℕ) → (nat_le 1 d && (nat_le 1 sh && nat_le sh s) && nat_lt x m) ≡ true → x < m
      lt_of d sh s x holds = grind (arith, holds)

      low_of : (d sh s x : ℕ) → (nat_le 1 d && (nat_le 1 sh && nat_le sh s) && nat_lt x m) ≡ true → 1 ≤ d
      low_of d sh s x holds = grind (arith, holds)

      low_shard : (d sh s x : ℕ) → (nat_le 1 d && (nat_le 1 sh && nat_le sh s) && nat_lt x m) ≡ true → 1 ≤ sh
      low_shard d sh s x holds = grind (arith, holds)

      high_shard : (d sh s x : ℕ) → (nat_le 1 d && (nat_le 1 sh && nat_le sh s) && nat_lt x m) ≡ true → sh ≤ s
      high_shard d sh s x holds = grind (arith, holds)

  no_coord_at : (n : NodeId) → is_among_first c k m n ≡ false → (place : ℕ) → place < k → n ≢ coord_name place
  no_coord_at n none place below e = never_both (is_among_first c k m (coord_name place)) (coord_among place below) (subst (λ (x : NodeId). is_among_first c k m x ≡ false) e none)

  no_shard_at : (n : NodeId) → is_among_first c k m n ≡ false → (place : ℕ) → place < m → n ≢ shard_name c place
  no_shard_at n none place below e = never_both (is_among_first c k m (shard_name c place)) (shard_among place below) (subst (λ (x : NodeId). is_among_first c k m x ≡ false) e none)

  coord_no_shard : (i j : ℕ) → coord_name i ≢ shard_name c j
  coord_no_shard i j e = no_coord (suc i) (suc (j / c.shards)) (suc (j % c.shards)) (sym e)

  -- they are nodes of the world
  among_node : (n : NodeId) → is_among_first c k m n ≡ true → is_node_of c n ≡ true
  among_node n holds = ⊎_elim (λ is. is) (λ out. never_both (is_among_first c k m n) holds (none_outside c k m few few_shards n out)) (true_or (is_node_of c n))

  -- WHAT IS LENT
  module _ (lent : NodeId → Bool) (first : AreLentFirst lent c k m) where
    pub coord_lent : (place : ℕ) → place < k → lent (coord_name place) ≡ true
    coord_lent place below = first (coord_name place) ∙ coord_among place below

    shard_lent : (place : ℕ) → place < m → lent (shard_name c place) ≡ true
    shard_lent place below = first (shard_name c place) ∙ shard_among place below

    -- the coordinators' disks are back
    module _ (mid : NodeId → Bool) (others_lent : (n : NodeId) → ((place : ℕ) → place < k → n ≢ coord_name place) → mid n ≡ lent n) where
      pub shard_lent_still : (place : ℕ) → place < m → mid (shard_name c place) ≡ true
      shard_lent_still place below = others_lent (shard_name c place) (λ i lt e. coord_no_shard i place (sym e)) ∙ shard_lent place below

      -- and those of the shard servers
      module _ (free_coord : (place : ℕ) → place < k → mid (coord_name place) ≡ false) (last : NodeId → Bool) (free_shard : (place : ℕ) → place < m → last (shard_name c place) ≡ false)
          (later_lent : (n : NodeId) → ((place : ℕ) → place < m → n ≢ shard_name c place) → last n ≡ mid n) where
        pub all_free : (n : NodeId) → last n ≡ false
        all_free n =
            ⊎_elim
            (λ (at : (place : ℕ) × (place < k) × (n ≡ coord_name place)).
            subst (λ (x : NodeId). last x ≡ false) (sym at.2) (later_lent (coord_name at.0) (λ j lt e. coord_no_shard at.0 j e) ∙ free_coord at.0 at.1))
            (λ rest.
            ⊎_elim
            (λ (at : (place : ℕ) × (place < m) × (n ≡ shard_name c place)). subst (λ (x : NodeId). last x ≡ false) (sym at.2) (free_shard at.0 at.1))
            (λ (none : is_among_first c k m n ≡ false). later_lent n (no_shard_at n none) ∙ others_lent n (no_coord_at n none) ∙ first n ∙ none)
            rest)
            (placed n)

    -- HOW THE DISKS STAND
    module _ (start mid last : NodeId → Standing) (others : (n : NodeId) → ((place : ℕ) → place < k → n ≢ coord_name place) → mid n ≡ start n)
        (later : (n : NodeId) → ((place : ℕ) → place < m → n ≢ shard_name c place) → last n ≡ mid n) where
      coord_stays : (place : ℕ) → last (coord_name place) ≡ mid (coord_name place)
      coord_stays place = later (coord_name place) (λ j lt e. coord_no_shard place j e)

      pub all_on : ((place : ℕ) → place < k → (mid (coord_name place)).power ≡ On) → ((place : ℕ) → place < m → (last (shard_name c place)).power ≡ On)
          → (n : NodeId) → lent n ≡ true → (last n).power ≡ On
      all_on coords_on shards_on n is_lent =
          ⊎_elim
          (λ (at : (place : ℕ) × (place < k) × (n ≡ coord_name place)).
          subst (λ (x : NodeId). (last x).power ≡ On) (sym at.2) (ap (λ (s : Standing). s.power) (coord_stays at.0) ∙ coords_on at.0 at.1))
          (λ rest.
          ⊎_elim
          (λ (at : (place : ℕ) × (place < m) × (n ≡ shard_name c place)). subst (λ (x : NodeId). (last x).power ≡ On) (sym at.2) (shards_on at.0 at.1))
          (λ (none : is_among_first c k m n ≡ false). never_both (lent n) is_lent (first n ∙ none))
          rest)
          (placed n)

      pub others_stand : (n : NodeId) → lent n ≡ false → last n ≡ start n
      others_stand n free = let none : is_among_first c k m n ≡ false = sym (first n) ∙ free in later n (no_shard_at n none) ∙ others n (no_coord_at n none)

      pub told_back : {C S J D : Type 0} (v : Views C S J D) (coords : List (Host C J D)) (shards : List (Host S J D)) (r : Runs) → r.cluster ≡ c
          → (((place : ℕ) → place < k → StandsKept r mid (coord_name place)) → CoordsAreTold v.coords r coords)
          → (((place : ℕ) → place < m → StandsKept r last (shard_name r.cluster place)) → ShardsAreTold v.shards r shards)
          → AllStandKept r last → AllAreTold v r lent start coords shards
      told_back v coords shards r same of_coords of_shards kept =
          let kept_at : (n : NodeId) → is_node_of c n ≡ true → StandsKept r last n = λ n is. kept n (subst (λ (l : Layout). is_node_of l n ≡ true) (sym same) is) in
          record {
            of_coords = of_coords (λ place below. subst (λ (s : Standing). IfSome s.told (λ t. IsKept t (r.ended (coord_name place)))) (coord_stays place) (kept_at (coord_name place) (among_node (coord_name place) (coord_among place below))));
            of_shards = of_shards (λ place below.
                subst (λ (l : Layout). StandsKept r last (shard_name l place)) (sym same) (kept_at (shard_name c place) (among_node (shard_name c place) (shard_among place below))));
            home = λ n is free. subst (λ (s : Standing). IfSome s.told (λ t. IsKept t (r.ended n))) (others_stand n free) (kept n is);
          }

-- ALL NODES are lent
module _ (c : Layout) (lent : NodeId → Bool) (k m : ℕ) (all : k ≡ c.dcs) (all_shards : m ≡ c.dcs * c.shards) (first : AreLentFirst lent c k m) where
  pub all_lent : (n : NodeId) → lent n ≡ is_node_of c n
  all_lent n =
      first n ∙ ap (λ (x : ℕ). is_among_first c x m n) all ∙ ap (λ (x : ℕ). is_among_first c c.dcs x n) all_shards ∙ all_of_them c n

  pub told_all : {C S J D : Type 0} (v : Views C S J D) (stands : NodeId → Standing) (coords : List (Host C J D)) (shards : List (Host S J D)) (r : Runs) → r.cluster ≡ c
      → CoordsAreTold v.coords r coords → ShardsAreTold v.shards r shards → AllAreTold v r lent stands coords shards
  told_all v stands coords shards r same coords_told shards_told = record {
    of_coords = coords_told;
    of_shards = shards_told;
    home = λ n is free. never_both (is_node_of c n) (subst (λ (l : Layout). is_node_of l n ≡ true) same is) (sym (all_lent n) ∙ free);
  }
