-- The disks that the farm has, as the nodes of a datacentre begin.
use Rattle.std.proofs.Common.{◌≡◌, ℕ, suc, ◌+◌, ◌-◌, ◌*◌, ◌<◌, ◌≤◌, Bool, true, false, List, [], ◌∷◌, ◌++◌, Ok, sym, ap, ◌∙◌, subst, arith, ⊎_elim, append_assoc}
use Rattle.std.specs.Prelude.{◌≢◌, ◌&&◌}
use Rattle.std.proofs.lemmas.List.{map-append, append-nil}
use Rattle.rc_ids.specs.Tables.{up_to}
use Rattle.rc_ids.specs.Cluster.{Layout, is_dc, is_shard}
use Rattle.rc_ids.specs.declared.names.NodeId.{NodeId}
use Rattle.rc_ids.specs.declared.names.NodeId.TheVariants.{Coord, Shard as ShardServer}
use Rattle.rc_disk.specs.declared.power.Power.TheVariants.{On}
use Rattle.rc_disk.specs.Places.{Standing}
use Rattle.rc_runs.specs.Stored.{Place, Begun, begins_node, begins_all}
use Rattle.rc_begin.specs.declared.fault.WorldFault.{WorldFault}
use Rattle.rc_begin.specs.Places.{shard_name}
use Rattle.rc_begin.specs.Hosts.{Runs}
use Rattle.rc_begin.specs.Beginnings.{BeginRefused}
use Rattle.rc_begin.specs.Gatherings.{servers}
use Rattle.rc_begin.specs.Starts.{is_node_of}
use Rattle.rc_begin.proofs.Serving.{servers_more, next_name}
use Rattle.rc_begin.proofs.Telling.{same_node}
use Rattle.rc_begin.proofs.Refusing.{one_refused, some_refused, grows}

pub later_still : (a b c : ℕ) → a ≤ b → b ≤ c → a ≤ c
later_still a b c first second = omega (arith, first, second)

module _ (start old new : NodeId → Standing) (lent_old lent_new : NodeId → Bool) (node : NodeId) where
  -- the next node's disk is lent; those that the farm has are as at the start
  pub home_still : lent_new node ≡ true → ((n : NodeId) → n ≢ node → lent_new n ≡ lent_old n) → ((n : NodeId) → n ≢ node → new n ≡ old n)
      → ((n : NodeId) → lent_old n ≡ false → old n ≡ start n) → (n : NodeId) → lent_new n ≡ false → new n ≡ start n
  home_still lent others_lent others before n free =
      ⊎_elim
      (λ (same : n ≡ node). absurd (let e : true ≡ false = sym lent ∙ sym (ap lent_new same) ∙ free in cc))
      (λ (other : n ≡ node → ⊥). others n other ∙ before n (sym (others_lent n other) ∙ free))
      (same_node node n)

  -- the next node is refused; no power went off
  pub on_still : ((n : NodeId) → n ≢ node → lent_new n ≡ lent_old n) → ((n : NodeId) → n ≢ node → new n ≡ old n)
      → ((n : NodeId) → lent_old n ≡ false → old n ≡ start n) → old node ≡ start node → ((old node).power ≡ On → (new node).power ≡ On)
      → (n : NodeId) → lent_new n ≡ false → (start n).power ≡ On → (new n).power ≡ On
  on_still others_lent others before here stays n free on =
      ⊎_elim
      (λ (same : n ≡ node).
      ap (λ (m : NodeId). (new m).power) same ∙ stays (ap (λ (s : Standing). s.power) here ∙ sym (ap (λ (m : NodeId). (start m).power) same) ∙ on))
      (λ (other : n ≡ node → ⊥). ap (λ (s : Standing). s.power) (others n other ∙ before n (sym (others_lent n other) ∙ free)) ∙ on)
      (same_node node n)

-- THE NEXT SHARD SERVER of a datacentre
pub next_place : (r : Runs) (c : Layout) (d n start now : ℕ) → r.cluster ≡ c → is_dc c d ≡ true → n < c.shards → now ≡ start + n → start ≡ (d - 1) * c.shards → shard_name r.cluster now ≡ ShardServer d (n + 1)
next_place r c d n start now same dc few more long = ap (λ (k : Layout). shard_name k now) same ∙ next_name c d n now dc few (more ∙ ap (λ (k : ℕ). k + n) long)

pub server_of_world : (c : Layout) (d sh : ℕ) → is_dc c d ≡ true → is_shard c sh ≡ true → is_node_of c (ShardServer d sh) ≡ true
server_of_world c d sh dc shard = both (is_dc c d) (is_shard c sh) dc shard
  where
    both : (a b : Bool) → a ≡ true → b ≡ true → (a && b) ≡ true
    both true b x y = y
    both false b x y = absurd cc

pub of_world : (r : Runs) (c : Layout) (d sh : ℕ) → r.cluster ≡ c → is_dc c d ≡ true → is_shard c sh ≡ true → is_node_of r.cluster (ShardServer d sh) ≡ true
of_world r c d sh same dc shard = subst (λ (k : Layout). is_node_of k (ShardServer d sh) ≡ true) (sym same) (server_of_world c d sh dc shard)

le_same : (a : ℕ) → a ≤ a
le_same a = omega arith

all_servers : (d m k : ℕ) → (rest : List NodeId) × (servers d (m + k) ≡ servers d m ++ rest)
all_servers d m k = grows (servers d) (λ n. ShardServer d (suc n) ∷ []) (λ n. map-append (λ (sh : ℕ). ShardServer d sh) (up_to n) (suc n ∷ [])) m k

-- of a datacentre's shard servers one is refused
pub server_refused : (p : Place) (c : Layout) (before was now : ℕ) → before ≤ was → (nodes : List NodeId) (d n m : ℕ) → n < m → (xs : List Begun) → begins_all p c (nodes ++ servers d n) ≡ Ok xs
    → (fault : WorldFault) → BeginRefused was now (begins_node p c (ShardServer d (n + 1))) fault → BeginRefused before now (begins_all p c (nodes ++ servers d m)) fault
server_refused p c before was now earlier nodes d n m few xs all fault h =
    let is : (n + 1) + (m - (n + 1)) ≡ m = omega (arith, few) in
    let rest = all_servers d (n + 1) (m - (n + 1)) in
    some_refused p c before was now now earlier (le_same now) (nodes ++ servers d (n + 1)) rest.0 (nodes ++ servers d m)
    (ap (λ (k : ℕ). nodes ++ servers d k) (sym is) ∙ ap (λ (ns : List NodeId). nodes ++ ns) rest.1 ∙ sym (append_assoc nodes (servers d (n + 1)) rest.0)) fault
    (some_refused p c was was now now (le_same was) (le_same now) ((nodes ++ servers d n) ++ ShardServer d (n + 1) ∷ []) [] (nodes ++ servers d (n + 1)) (sym (servers_more nodes d n) ∙ sym (append-nil _))
    fault (one_refused p c was was now now (le_same was) (le_same now) (nodes ++ servers d n) [] (ShardServer d (n + 1)) xs all fault h))

-- THE COORDINATOR of a datacentre, and then its shard servers
pub dc_of_world : (r : Runs) (c : Layout) (d : ℕ) → r.cluster ≡ c → is_dc c d ≡ true → is_node_of r.cluster (Coord d) ≡ true
dc_of_world r c d same dc = subst (λ (k : Layout). is_node_of k (Coord d) ≡ true) (sym same) dc

module _ (p : Place) (c : Layout) where
  pub coord_refused : (before now : ℕ) (nodes : List NodeId) (d m : ℕ) (xs : List Begun) → begins_all p c nodes ≡ Ok xs
      → (fault : WorldFault) → BeginRefused before now (begins_node p c (Coord d)) fault → BeginRefused before now (begins_all p c (nodes ++ Coord d ∷ servers d m)) fault
  coord_refused before now nodes d m xs all fault h = one_refused p c before before now now (le_same before) (le_same now) nodes (servers d m) (Coord d) xs all fault h

  pub dc_refused : (before was now : ℕ) → before ≤ was → (nodes : List NodeId) (d m : ℕ)
      → (fault : WorldFault) → BeginRefused was now (begins_all p c ((nodes ++ Coord d ∷ []) ++ servers d m)) fault → BeginRefused before now (begins_all p c (nodes ++ Coord d ∷ servers d m)) fault
  dc_refused before was now earlier nodes d m fault h =
      some_refused p c before was now now earlier (le_same now) ((nodes ++ Coord d ∷ []) ++ servers d m) [] (nodes ++ Coord d ∷ servers d m)
      (sym (append_assoc nodes (Coord d ∷ []) (servers d m)) ∙ sym (append-nil _)) fault h
