-- The nodes of all datacentres begin.
use Rattle.std.proofs.Common.{◌≡◌, ℕ, suc, ◌+◌, ◌-◌, ◌*◌, ◌<◌, ◌≤◌, Bool, true, false, List, [], ◌∷◌, ◌++◌, refl, sym, ap, ◌∙◌, subst, arith, add-one}
use Rattle.std.specs.Prelude.{◌&&◌, nat_le}
use Rattle.std.specs.List.{flat_map, list_all}
use Rattle.std.proofs.lemmas.List.{append-nil}
use Rattle.std.proofs.lemmas.Grind.{flat_map-append}
use Rattle.rc_ids.specs.Tables.{up_to}
use Rattle.rc_ids.specs.Cluster.{Layout, is_dc}
use Rattle.rc_ids.specs.declared.names.NodeId.{NodeId}
use Rattle.rc_ids.specs.declared.names.NodeId.TheVariants.{Coord}
use Rattle.rc_runs.specs.Devices.{Device}
use Rattle.rc_runs.specs.Stored.{Place, begins_all, nodes_of_dc, nodes_of}
use Rattle.rc_host.specs.declared.host.Host.{Host}
use Rattle.rc_begin.specs.declared.fault.WorldFault.{WorldFault}
use Rattle.rc_begin.specs.Places.{coord_name, AreAt}
use Rattle.rc_begin.specs.Hosts.{Runs, Views}
use Rattle.rc_begin.specs.Beginnings.{BeginRefused}
use Rattle.rc_begin.specs.Gatherings.{AreGathered}
use Rattle.rc_begin.specs.Starts.{is_node_of}
use Rattle.rc_begin.proofs.Refusing.{some_refused, grows}

-- NO NODE
none_at : {H X : Type 0} (Is : ℕ → H → X → Device → Type 0) → AreAt Is [] [] []
none_at Is = record { as_nodes = refl; as_devices = refl; each = λ place h x d at_host at_node at_device. absurd cc }

pub none_gathered : {C S J D : Type 0} (v : Views C S J D) (r : Runs) (p : Place) (coords : List (Host C J D)) (coord_logs : List (List (List ℕ))) (shards : List (Host S J D)) (shard_logs : List (List (List ℕ)))
    → coords ≡ [] → coord_logs ≡ [] → shards ≡ [] → shard_logs ≡ [] → AreGathered v r p [] coords coord_logs shards shard_logs
none_gathered {C} {S} {J} {D} v r p coords coord_logs shards shard_logs a b c d =
    subst (λ (xs : List (Host C J D)). AreGathered v r p [] xs coord_logs shards shard_logs) (sym a)
    (subst (λ (xs : List (List (List ℕ))). AreGathered v r p [] [] xs shards shard_logs) (sym b)
    (subst (λ (xs : List (Host S J D)). AreGathered v r p [] [] [] xs shard_logs) (sym c)
    (subst (λ (xs : List (List (List ℕ))). AreGathered v r p [] [] [] [] xs) (sym d)
    (record { begun = []; is = refl; of_coords = none_at _; of_shards = none_at _; logs_of_coords = refl; logs_of_shards = refl }))))

pub no_places : (n s : ℕ) → n ≡ 0 → n ≡ 0 * s
no_places n s none = grind (arith, none)

pub none_there : (s : ℕ) → 0 * s ≡ 0
none_there s = grind arith

pub none_fails : {X : Type 0} (f : X → Bool) (xs : List X) → xs ≡ [] → list_all f xs ≡ true
none_fails {X} f xs none = subst (λ (ys : List X). list_all f ys ≡ true) (sym none) refl

-- THE NEXT DATACENTRE
pub next_coord : (n count : ℕ) → n ≡ count → coord_name n ≡ Coord (count + 1)
next_coord n count is = ap coord_name is ∙ sym (ap Coord (add-one count))

pub next_servers : (n count s : ℕ) → n ≡ count * s → n ≡ ((count + 1) - 1) * s
next_servers n count s is = let e : count ≡ (count + 1) - 1 = omega arith in is ∙ ap (λ (k : ℕ). k * s) e

pub next_dc : (c : Layout) (n : ℕ) → n < c.dcs → is_dc c (n + 1) ≡ true
next_dc c n lt = holds n c.dcs lt
  where
    holds : (n m : ℕ) → n < m → (nat_le 1 (n + 1) && nat_le (n + 1) m) ≡ true
    holds n m lt = grind (arith, lt)

one_dc_more : (c : Layout) (n : ℕ) → flat_map (nodes_of_dc c) (up_to (suc n)) ≡ flat_map (nodes_of_dc c) (up_to n) ++ nodes_of_dc c (suc n)
one_dc_more c n = flat_map-append (nodes_of_dc c) (up_to n) (suc n ∷ []) ∙ ap (λ (xs : List NodeId). flat_map (nodes_of_dc c) (up_to n) ++ xs) (append-nil (nodes_of_dc c (suc n)))

pub with_next_dc : (c : Layout) (n : ℕ) → flat_map (nodes_of_dc c) (up_to n) ++ nodes_of_dc c (n + 1) ≡ flat_map (nodes_of_dc c) (up_to (n + 1))
with_next_dc c n =
    ap (λ (k : ℕ). flat_map (nodes_of_dc c) (up_to n) ++ nodes_of_dc c k) (add-one n) ∙ sym (one_dc_more c n)
    ∙ ap (λ (k : ℕ). flat_map (nodes_of_dc c) (up_to k)) (sym (add-one n))

pub gathered_as : {C S J D : Type 0} (v : Views C S J D) (r : Runs) (p : Place) (ns ms : List NodeId) (coords : List (Host C J D)) (coord_logs : List (List (List ℕ))) (shards : List (Host S J D)) (shard_logs : List (List (List ℕ)))
    → ns ≡ ms → AreGathered v r p ns coords coord_logs shards shard_logs → AreGathered v r p ms coords coord_logs shards shard_logs
gathered_as v r p ns ms coords coord_logs shards shard_logs same are = subst (λ (xs : List NodeId). AreGathered v r p xs coords coord_logs shards shard_logs) same are

-- a node of the next datacentre is refused
pub all_refused : (p : Place) (r : Runs) (c : Layout) (before was now : ℕ) → r.cluster ≡ c → before ≤ was → (n : ℕ) → n < c.dcs → (fault : WorldFault)
    → BeginRefused was now (begins_all p r.cluster (flat_map (nodes_of_dc c) (up_to n) ++ nodes_of_dc c (n + 1))) fault
    → BeginRefused before now (begins_all p r.cluster (nodes_of r.cluster)) fault
all_refused p r c before was now same earlier n few fault h =
    let is : (n + 1) + (c.dcs - (n + 1)) ≡ c.dcs = omega (arith, few) in
    let rest = grows (λ (k : ℕ). flat_map (nodes_of_dc c) (up_to k)) (λ (k : ℕ). nodes_of_dc c (suc k)) (one_dc_more c) (n + 1) (c.dcs - (n + 1)) in
    let all : nodes_of c ≡ flat_map (nodes_of_dc c) (up_to (n + 1)) ++ rest.0 = ap (λ (k : ℕ). flat_map (nodes_of_dc c) (up_to k)) (sym is) ∙ rest.1 in
    some_refused p r.cluster before was now now earlier (omega arith) (flat_map (nodes_of_dc c) (up_to n) ++ nodes_of_dc c (n + 1)) rest.0 (nodes_of r.cluster)
    (ap nodes_of same ∙ all ∙ ap (λ (xs : List NodeId). xs ++ rest.0) (sym (with_next_dc c n))) fault h

-- a node that is none of the world's
pub not_the_same : (c : Layout) (x y : NodeId) → is_node_of c x ≡ false → is_node_of c y ≡ true → x ≡ y → ⊥
not_the_same c x y out known same = let e : true ≡ false = sym known ∙ sym (ap (is_node_of c) same) ∙ out in cc
