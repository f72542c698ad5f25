-- What the disks tell, as one node more begins.
use Rattle.std.proofs.Common.{◌≡◌, ℕ, suc, ◌+◌, Bool, false, List, [], ◌∷◌, ◌++◌, length, take, Result, Ok, Err, IfSome, refl, sym, ap, ◌∙◌, subst, arith, ◌⊎◌, inl, inr, ⊎_elim}
use Rattle.std.specs.Prelude.{◌≢◌, OnOk, OnErr, IsTrue}
use Rattle.rc_ids.specs.declared.names.NodeId.{NodeId}
use Rattle.rc_ids.specs.declared.names.NodeId.TheVariants.{Coord, Shard as ShardServer}
use Rattle.rc_disk.specs.Calls.{Told}
use Rattle.rc_disk.specs.Places.{Standing}
use Rattle.rc_devices.specs.Disks.{IsKept}
use Rattle.rc_host.specs.Hosts.{IsToldBy}
use Rattle.rc_host.specs.declared.host.Host.{Host}
use Rattle.rc_begin.specs.Beginnings.{LastGrew}
use Rattle.rc_begin.specs.Places.{coord_name, shard_name}
use Rattle.rc_begin.specs.Hosts.{Runs, Views, CoordsAreTold, ShardsAreTold}
use Rattle.rc_begin.specs.Starts.{is_node_of, StandsKept, AllAreTold}
use Rattle.rc_begin.proofs.Lists.{same_or}
use Rattle.rc_begin.proofs.Behind.{all_end}
use Rattle.rc_begin.proofs.Serving.{all_in_front, all_same}

-- THE LAST of a list that is one longer
one_longer : (m n : ℕ) → suc m ≡ suc n + 1 → m ≡ n + 1
one_longer m n e = omega (arith, e)

pub last_of : {X : Type 0} (old now : List X) → length now ≡ length old + 1 → take (length old) now ≡ old → (x : X) × (now ≡ old ++ x ∷ [])
last_of [] [] long front = absurd (omega (arith, long))
last_of [] (x ∷ []) long front = (x, refl)
last_of [] (x ∷ y ∷ ys) long front = absurd (omega (arith, long))
last_of (o ∷ os) [] long front = absurd (omega (arith, long))
last_of (o ∷ os) (n ∷ ns) long front =
    let tail : take (length os) ns ≡ os = (let e : n ∷ take (length os) ns ≡ o ∷ os = front in cc) in
    let head : n ≡ o = (let e : n ∷ take (length os) ns ≡ o ∷ os = front in cc) in
    let rest = last_of os ns (one_longer (length ns) (length os) long) tail in
    (rest.0, ap (λ ys. n ∷ ys) rest.1 ∙ ap (λ y. y ∷ (os ++ rest.0 ∷ [])) head)

-- THE SAME NODE, or another
pub no_coord : (d e sh : ℕ) → ShardServer e sh ≡ Coord d → ⊥
no_coord d e sh same = cc

pub coord_number : (d e : ℕ) → Coord e ≡ Coord d → e ≡ d
coord_number d e same = cc

shard_number : (d sh e th : ℕ) → ShardServer e th ≡ ShardServer d sh → th ≡ sh
shard_number d sh e th same = cc

pub dc_number : (d sh e th : ℕ) → ShardServer e th ≡ ShardServer d sh → e ≡ d
dc_number d sh e th same = cc

pub same_node : (node n : NodeId) → (n ≡ node) ⊎ (n ≡ node → ⊥)
same_node (Coord d) (Coord e) = ⊎_elim (λ s. inl (ap Coord s)) (λ o. inr (λ s. o (coord_number d e s))) (same_or d e)
same_node (Coord d) (ShardServer e sh) = inr (no_coord d e sh)
same_node (ShardServer d sh) (Coord e) = inr (λ s. no_coord e d sh (sym s))
same_node (ShardServer d sh) (ShardServer e th) =
    ⊎_elim
    (λ (s : e ≡ d).
    ⊎_elim (λ (t : th ≡ sh). inl (ap (λ k. ShardServer k th) s ∙ ap (ShardServer d) t)) (λ o. inr (λ x. o (shard_number d sh e th x))) (same_or sh th))
    (λ o. inr (λ x. o (dc_number d sh e th x)))
    (same_or d e)

-- ONE NODE MORE
module _ (r : Runs) (lent_old lent_new : NodeId → Bool) (stands_old stands_new : NodeId → Standing) (node : NodeId)
    (others_lent : (n : NodeId) → n ≢ node → lent_new n ≡ lent_old n) (others : (n : NodeId) → n ≢ node → stands_new n ≡ stands_old n) where
  kept_home : ((n : NodeId) → IsTrue (is_node_of r.cluster n) → lent_new n ≡ false → StandsKept r stands_new n) → (IsTrue (is_node_of r.cluster node) → StandsKept r stands_old node)
      → (n : NodeId) → IsTrue (is_node_of r.cluster n) → lent_old n ≡ false → StandsKept r stands_old n
  kept_home home here n known free =
      ⊎_elim
      (λ (same : n ≡ node). subst (StandsKept r stands_old) (sym same) (here (subst (λ (m : NodeId). IsTrue (is_node_of r.cluster m)) same known)))
      (λ (other : n ≡ node → ⊥). subst (λ (s : Standing). IfSome s.told (λ t. IsKept t (r.ended n))) (others n other) (home n known (others_lent n other ∙ free)))
      (same_node node n)

  -- what the node's disk tells at the refusal, it told before
  abbrev GrewBack : Type 0
  GrewBack = (ended : Told) → IfSome (stands_new node).told (λ t. IsKept t ended) → IfSome (stands_old node).told (λ t. IsKept t ended)

  pub coord_told : {C S J D A E : Type 0} (v : Views C S J D) (result : Result A E) (coords coords_now : List (Host C J D)) (shards shards_now : List (Host S J D)) → coord_name (length coords) ≡ node
      → OnOk result (LastGrew v.coords coords coords_now (stands_old node).told) → OnErr result GrewBack
      → OnOk result (length coords_now ≡ length coords + 1) → OnOk result (take (length coords) coords_now ≡ coords) → OnErr result (coords_now ≡ coords) → OnErr result (lent_new node ≡ false) → shards_now ≡ shards
      → AllAreTold v r lent_new stands_new coords_now shards_now → AllAreTold v r lent_old stands_old coords shards
  coord_told v (Ok x) coords coords_now shards shards_now place grew back more front kept free rest told =
      let last = last_of coords coords_now more front in
      record {
        of_coords = all_in_front _ coords coords_now front told.of_coords;
        of_shards = all_same _ shards_now shards rest told.of_shards;
        home = kept_home told.home (λ known.
            grew last.0 (r.ended node) last.1 (subst (λ (n : NodeId). IsToldBy v.coords last.0 (r.ended n)) place
            (all_end (λ place h. IsToldBy v.coords h (r.ended (coord_name place))) coords last.0 (subst (CoordsAreTold v.coords r) last.1 told.of_coords))));
      }
  coord_told v (Err e) coords coords_now shards shards_now place grew back more front kept free rest told = record {
    of_coords = all_same _ coords_now coords kept told.of_coords;
    of_shards = all_same _ shards_now shards rest told.of_shards;
    home = kept_home told.home (λ known. back (r.ended node) (told.home node known free));
  }

  pub shard_told : {C S J D A E : Type 0} (v : Views C S J D) (result : Result A E) (coords coords_now : List (Host C J D)) (shards shards_now : List (Host S J D)) → shard_name r.cluster (length shards) ≡ node
      → OnOk result (LastGrew v.shards shards shards_now (stands_old node).told) → OnErr result GrewBack
      → OnOk result (length shards_now ≡ length shards + 1) → OnOk result (take (length shards) shards_now ≡ shards) → OnErr result (shards_now ≡ shards) → OnErr result (lent_new node ≡ false) → coords_now ≡ coords
      → AllAreTold v r lent_new stands_new coords_now shards_now → AllAreTold v r lent_old stands_old coords shards
  shard_told v (Ok x) coords coords_now shards shards_now place grew back more front kept free rest told =
      let last = last_of shards shards_now more front in
      record {
        of_coords = all_same _ coords_now coords rest told.of_coords;
        of_shards = all_in_front _ shards shards_now front told.of_shards;
        home = kept_home told.home (λ known.
            grew last.0 (r.ended node) last.1 (subst (λ (n : NodeId). IsToldBy v.shards last.0 (r.ended n)) place
            (all_end (λ place h. IsToldBy v.shards h (r.ended (shard_name r.cluster place))) shards last.0 (subst (ShardsAreTold v.shards r) last.1 told.of_shards))));
      }
  shard_told v (Err e) coords coords_now shards shards_now place grew back more front kept free rest told = record {
    of_coords = all_same _ coords_now coords rest told.of_coords;
    of_shards = all_same _ shards_now shards kept told.of_shards;
    home = kept_home told.home (λ known. back (r.ended node) (told.home node known free));
  }
