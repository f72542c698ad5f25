-- The farm has the disks of a world back: first those of coordinators, then those of shard servers.
use Rattle.std.proofs.Common.{◌≡◌, ℕ, zero, suc, ◌*◌, ◌/◌, ◌<◌, ◌≤◌, Bool, true, false, IsTrue, sym, ap, ◌∙◌, subst, arith}
use Rattle.std.specs.Prelude.{◌≢◌, ◌%◌, ◌&&◌, nat_le}
use Rattle.std.proofs.Math.Nat.{div-lt_iff_lt-mul}
use Rattle.std.proofs.lemmas.Bool.{false≢true}
use Rattle.std.proofs.lemmas.Bool.Decides.{nat_tests}
use Rattle.rc_ids.specs.Cluster.{Layout, IsLayout, is_dc, is_shard, is_dc_count}
use Rattle.rc_ids.specs.declared.names.NodeId.{NodeId}
use Rattle.rc_ids.specs.declared.names.NodeId.TheVariants.{Coord, Shard as ShardServer}
use Rattle.rc_disk.specs.Places.{Standing}
use Rattle.rc_protocol.specs.Nodes.{coord_index, shard_index}
use Rattle.rc_begin.specs.Places.{coord_name, shard_name}
use Rattle.rc_begin.specs.Hosts.{Runs}
use Rattle.rc_begin.specs.Starts.{is_node_of, StandsKept, AllStandKept}
use Rattle.rc_begin.proofs.Lists.{coord_named, name_is, place_within}

-- WHO IS OF THE WORLD
both : (a b : Bool) → a ≡ true → b ≡ true → (a && b) ≡ true
both a b first second = ap (λ x. x && b) first ∙ second

le_is : (m n : ℕ) → m ≤ n → nat_le m n ≡ true
le_is m n le = grind arith

low_number : (d n : ℕ) → (nat_le 1 d && nat_le d n) ≡ true → 1 ≤ d
low_number d n is = grind arith

high_number : (d n : ℕ) → (nat_le 1 d && nat_le d n) ≡ true → d ≤ n
high_number d n is = grind arith

number_within : (n i : ℕ) → i < n → (nat_le 1 (suc i) && nat_le (suc i) n) ≡ true
number_within n i lt = both (nat_le 1 (suc i)) (nat_le (suc i) n) (le_is 1 (suc i) (omega arith)) (le_is (suc i) n (omega arith))

some_shards : (d s place : ℕ) → place < d * s → 0 < s
some_shards d zero place lt = absurd (omega (arith, lt))
some_shards d (suc s) place lt = omega arith

pub coord_of_world : (c : Layout) (count place : ℕ) → count ≡ c.dcs → place < count → is_node_of c (coord_name place) ≡ true
coord_of_world c count place all lt = number_within c.dcs place (omega (arith, all, lt))

pub shard_of_world : (c : Layout) (count place : ℕ) → count ≡ c.dcs * c.shards → place < count → is_node_of c (shard_name c place) ≡ true
shard_of_world c count place all lt =
    let within : place < c.dcs * c.shards = omega (arith, all, lt) in
    let some = some_shards c.dcs c.shards place within in
    both (is_dc c (suc (place / c.shards))) (is_shard c (suc (place % c.shards)))
    (number_within c.dcs (place / c.shards) ((div-lt_iff_lt-mul {k = c.shards} some).1 within))
    (number_within c.shards (place % c.shards) (omega arith))

few_numbers : (n : ℕ) → is_dc_count n ≡ true → n ≤ 7
few_numbers n is = grind (arith, nat_tests)

pub few_dcs : (c : Layout) (count : ℕ) → IsLayout c → count ≡ c.dcs → count ≤ 7
few_dcs c count layout all = let k = few_numbers c.dcs layout.dcs in omega (arith, k, all)

-- a node of the world stands at a place of the coordinators or of the shard servers
pub record IsAt (name : ℕ → NodeId) (count : ℕ) (n : NodeId) : Type 0 where
  pub place : ℕ
  pub within : place < count
  pub is : name place ≡ n

pub coord_at : (c : Layout) (count d : ℕ) → count ≡ c.dcs → is_node_of c (Coord d) ≡ true → IsAt coord_name count (Coord d)
coord_at c count d all known =
    let low = low_number d c.dcs known in
    let high = high_number d c.dcs known in
    record { place = coord_index d; within = omega (arith, low, high, all); is = coord_named d low }

pub shard_at : (c : Layout) (count d sh : ℕ) → count ≡ c.dcs * c.shards → is_node_of c (ShardServer d sh) ≡ true → IsAt (shard_name c) count (ShardServer d sh)
shard_at c count d sh all known = record {
  place = shard_index c d sh;
  within = subst (λ (n : ℕ). shard_index c d sh < n) (sym all) (place_within c d sh known);
  is = name_is c d sh known;
}

other_kind : (d e sh : ℕ) → Coord d ≡ ShardServer e sh → ⊥
other_kind d e sh same = cc

not_of_world : (c : Layout) (n m : NodeId) → is_node_of c n ≡ false → is_node_of c m ≡ true → n ≢ m
not_of_world c n m out known same = false≢true (sym out ∙ ap (is_node_of c) same ∙ known)

module _ (c : Layout) (coords shards : ℕ) (all_coords : coords ≡ c.dcs) (all_shards : shards ≡ c.dcs * c.shards) where
  coord_stays : {X : Type 0} (mid new : NodeId → X) → ((n : NodeId) → ((place : ℕ) → place < shards → n ≢ shard_name c place) → new n ≡ mid n) → (d : ℕ) → new (Coord d) ≡ mid (Coord d)
  coord_stays mid new others d = others (Coord d) (λ place lt. other_kind d (suc (place / c.shards)) (suc (place % c.shards)))

  -- what held of each disk as it came back holds of all at the end
  pub of_all : {X : Type 0} (P : X → Type 0) (mid new : NodeId → X) → ((place : ℕ) → place < coords → P (mid (coord_name place))) → ((place : ℕ) → place < shards → P (new (shard_name c place)))
      → ((n : NodeId) → ((place : ℕ) → place < shards → n ≢ shard_name c place) → new n ≡ mid n) → (n : NodeId) → is_node_of c n ≡ true → P (new n)
  of_all {X = X} P mid new of_coords of_shards others (Coord d) known =
      let at = coord_at c coords d all_coords known in
      subst P (sym (coord_stays mid new others d)) (subst (λ (n : NodeId). P (mid n)) at.is (of_coords at.place at.within))
  of_all {X = X} P mid new of_coords of_shards others (ShardServer d sh) known =
      let at = shard_at c shards d sh all_shards known in subst (λ (n : NodeId). P (new n)) at.is (of_shards at.place at.within)

  -- no other disk changed
  pub none_other : {X : Type 0} (old mid new : NodeId → X) → ((n : NodeId) → ((place : ℕ) → place < coords → n ≢ coord_name place) → mid n ≡ old n)
      → ((n : NodeId) → ((place : ℕ) → place < shards → n ≢ shard_name c place) → new n ≡ mid n) → (n : NodeId) → is_node_of c n ≡ false → new n ≡ old n
  none_other old mid new at_coords at_shards n out =
      at_shards n (λ place lt. not_of_world c n (shard_name c place) out (shard_of_world c shards place all_shards lt))
      ∙ at_coords n (λ place lt. not_of_world c n (coord_name place) out (coord_of_world c coords place all_coords lt))

  -- shard servers' disks are lent still after those of coordinators are back
  pub still_lent : (old mid : NodeId → Bool) → ((n : NodeId) → IsTrue (is_node_of c n) → old n ≡ true)
      → ((n : NodeId) → ((place : ℕ) → place < coords → n ≢ coord_name place) → mid n ≡ old n) → (place : ℕ) → place < shards → mid (shard_name c place) ≡ true
  still_lent old mid lent others place lt =
      others (shard_name c place) (λ k at same. other_kind (suc k) (suc (place / c.shards)) (suc (place % c.shards)) (sym same))
      ∙ lent (shard_name c place) (shard_of_world c shards place all_shards lt)

  -- what all disks keep to the end those of coordinators and of shard servers do
  pub coords_kept : (r : Runs) → r.cluster ≡ c → (mid new : NodeId → Standing) → AllStandKept r new
      → ((n : NodeId) → ((place : ℕ) → place < shards → n ≢ shard_name c place) → new n ≡ mid n) → (place : ℕ) → place < coords → StandsKept r mid (coord_name place)
  coords_kept r same mid new kept others place lt =
      subst (λ (s : Standing). StandsKept r (λ n. s) (coord_name place)) (coord_stays mid new others (suc place))
      (kept (coord_name place) (ap (λ (k : Layout). is_node_of k (coord_name place)) same ∙ coord_of_world c coords place all_coords lt))

  pub shards_kept : (r : Runs) → r.cluster ≡ c → (new : NodeId → Standing) → AllStandKept r new → (place : ℕ) → place < shards → StandsKept r new (shard_name r.cluster place)
  shards_kept r same new kept place lt =
      kept (shard_name r.cluster place)
      (subst (λ (k : Layout). is_node_of k (shard_name k place) ≡ true) (sym same) (shard_of_world c shards place all_shards lt))
