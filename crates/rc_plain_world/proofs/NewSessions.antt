-- New sessions: every node begins with a created log.
use Rattle.std.proofs.Common.{◌≡◌, ℕ, zero, suc, ◌+◌, ◌≤◌, List, [], ◌∷◌, ◌++◌, length, ◌⊎◌, inl, inr, refl, sym, ◌∙◌, ap, subst, arith, add-one, append_assoc, length-append}
use Rattle.std.proofs.lemmas.List.{append-nil}
use Rattle.std.specs.Prelude.{Result, Ok, map}
use Rattle.std.specs.List.{flat_map}
use Rattle.rc_ids.specs.Tables.{up_to}
use Rattle.rc_ids.specs.Cluster.{Layout}
use Rattle.rc_ids.specs.declared.names.NodeId.{NodeId}
use Rattle.rc_ids.specs.declared.names.NodeId.TheVariants.{Coord, Shard as ShardServer}
use Rattle.rc_body.specs.declared.entry.Entry.{Entry}
use Rattle.rc_protocol.specs.Nodes.{CoordNode, ShardNode, coord_started, shard_started}
use Rattle.rc_runs.specs.Devices.{Device}
use Rattle.rc_runs.specs.Session.{Session, Halt}
use Rattle.rc_runs.specs.Stored.{Begun, in_memory, begins_all, and_then, with_rest, nodes_of, nodes_of_dc, if_coord, if_shard, coords_of, shards_of, session_from, new_session}
use Rattle.rc_runs.specs.Starts.{named_by_coords, named_by_shards, all_choices}
use Rattle.rc_runs.specs.World.{started_world}
use Rattle.rc_plain_world.specs.Hosts.{CoordSite, ShardSite, coord_nodes, coord_devices, shard_nodes, shard_devices}
use Rattle.rc_plain_world.specs.Networks.{new_network}
use Rattle.rc_plain_world.specs.Acted.{housed}
use Rattle.rc_plain_world.specs.Sessions.{session_of}
use Rattle.rc_plain_world.specs.Starts.{begun, Begins, coord_site, shard_site, coord_sites, shard_sites}

-- NUMBERS FROM 1 ON
le_split : (d n : ℕ) → d ≤ suc n → (d ≤ n) ⊎ (d ≡ suc n)
le_split zero n h = inl (omega arith)
le_split (suc d) zero h = inr (omega arith)
le_split (suc d) (suc n) h =
    let h' : d ≤ suc n = omega arith in
    elim (le_split d n h') as (λ _. (suc d ≤ suc n) ⊎ (suc d ≡ suc (suc n))) [ inl a ↦ inl (omega arith) | inr b ↦ inr (ap suc b) ]

pub one_more : (P : ℕ → Type 0) (n : ℕ) → ((d : ℕ) → 1 ≤ d → d ≤ n → P d) → P (n + 1) → (d : ℕ) → 1 ≤ d → d ≤ n + 1 → P d
one_more P n all here d low high =
    let high' : d ≤ suc n = omega arith in
    elim (le_split d n high') as (λ _. P d) [ inl a ↦ all d low a | inr b ↦ let e : n + 1 ≡ d = omega arith in subst P e here ]

map_append : {X Y : Type 0} (f : X → Y) (xs ys : List X) → map f (xs ++ ys) ≡ map f xs ++ map f ys
map_append f [] ys = refl
map_append f (x ∷ xs) ys = ap (λ (zs : List _). f x ∷ zs) (map_append f xs ys)

flat_append : {X Y : Type 0} (f : X → List Y) (xs ys : List X) → flat_map f (xs ++ ys) ≡ flat_map f xs ++ flat_map f ys
flat_append f [] ys = refl
flat_append f (x ∷ xs) ys = ap (λ (zs : List _). f x ++ zs) (flat_append f xs ys) ∙ sym (append_assoc (f x) (flat_map f xs) (flat_map f ys))

pub sites_more : {X : Type 0} (f : ℕ → X) (n : ℕ) (xs : List X) (x : X) → xs ≡ map f (up_to n) → x ≡ f (n + 1) → xs ++ x ∷ [] ≡ map f (up_to (n + 1))
sites_more f n xs x are is = rw add-one (ap (λ (ys : List _). ys ++ x ∷ []) are ∙ ap (λ (y : _). map f (up_to n) ++ y ∷ []) (is ∙ ap f (add-one n)) ∙ sym (map_append f (up_to n) (suc n ∷ [])))

pub flat_more : {X : Type 0} (f : ℕ → List X) (n : ℕ) (xs ys : List X) → xs ≡ flat_map f (up_to n) → ys ≡ f (n + 1) → xs ++ ys ≡ flat_map f (up_to (n + 1))
flat_more f n xs ys are is =
    rw add-one (ap (λ (zs : List _). zs ++ ys) are ∙ ap (λ (zs : List _). flat_map f (up_to n) ++ zs) (is ∙ ap f (add-one n) ∙ sym (append-nil (f (suc n)))) ∙ sym (flat_append f (up_to n) (suc n ∷ [])))

pub length_sites : {X : Type 0} (f : ℕ → X) (n : ℕ) → length (map f (up_to n)) ≡ n
length_sites f zero = refl
length_sites f (suc n) = ap length (map_append f (up_to n) (suc n ∷ [])) ∙ omega (arith, length-append (map f (up_to n)) (f (suc n) ∷ []), length_sites f n)

-- ALL NODES BEGIN
AllOf : {X : Type 0} (P : X → Type 0) → List X → Type 0
AllOf P [] = Unit {0}
AllOf P (x ∷ xs) = P x × AllOf P xs

all_append : {X : Type 0} (P : X → Type 0) (xs ys : List X) → AllOf P xs → AllOf P ys → AllOf P (xs ++ ys)
unfolding AllOf
all_append P [] ys a b = b
all_append P (x ∷ xs) ys a b = (a.0, all_append P xs ys a.1 b)

all_up : (P : ℕ → Type 0) (n : ℕ) → ((d : ℕ) → 1 ≤ d → d ≤ n → P d) → AllOf P (up_to n)
unfolding AllOf
all_up P zero all = tt
all_up P (suc n) all = all_append P (up_to n) (suc n ∷ []) (all_up P n (λ d low high. all d low (omega arith))) (all (suc n) (omega arith) (omega arith), tt)

all_map : {X Y : Type 0} (P : Y → Type 0) (g : X → Y) (xs : List X) → AllOf (λ x. P (g x)) xs → AllOf P (map g xs)
unfolding AllOf
all_map P g [] a = tt
all_map P g (x ∷ xs) a = (a.0, all_map P g xs a.1)

all_flat : {X Y : Type 0} (P : Y → Type 0) (g : X → List Y) (xs : List X) → AllOf (λ x. AllOf P (g x)) xs → AllOf P (flat_map g xs)
unfolding AllOf
all_flat P g [] a = tt
all_flat P g (x ∷ xs) a = all_append P (g x) (flat_map g xs) a.0 (all_flat P g xs a.1)

begin_all : (c : Layout) (nodes : List NodeId) → AllOf (Begins c) nodes → begins_all in_memory c nodes ≡ Ok (map (begun c) nodes)
unfolding AllOf
begin_all c [] all = refl
begin_all c (node ∷ nodes) all = ap (λ (r : Result Begun Halt). with_rest r (begins_all in_memory c nodes)) all.0 ∙ ap (and_then (begun c node)) (begin_all c nodes all.1)

nodes_begin : (c : Layout) → ((d : ℕ) → 1 ≤ d → d ≤ c.dcs → Begins c (Coord d)) → ((d s : ℕ) → 1 ≤ d → d ≤ c.dcs → 1 ≤ s → s ≤ c.shards → Begins c (ShardServer d s)) → AllOf (Begins c) (nodes_of c)
unfolding AllOf
nodes_begin c coords shards =
    all_flat (Begins c) (nodes_of_dc c) (up_to c.dcs)
    (all_up (λ d. AllOf (Begins c) (nodes_of_dc c d)) c.dcs (λ d low high. (coords d low high, all_map (Begins c) (λ (s : ℕ). ShardServer d s) (up_to c.shards) (all_up (λ s. Begins c (ShardServer d s)) c.shards (λ s l h. shards d s low high l h)))))

-- WHAT BEGAN
no_coords : {X : Type 0} (g : Begun → X) (c : Layout) (d : ℕ) (ss : List ℕ) → flat_map (λ (x : Begun). if_coord x.node (g x)) (map (begun c) (map (λ (s : ℕ). ShardServer d s) ss)) ≡ []
no_coords g c d [] = refl
no_coords g c d (s ∷ ss) = no_coords g c d ss

its_shards : {X : Type 0} (g : Begun → X) (c : Layout) (d : ℕ) (ss : List ℕ) → flat_map (λ (x : Begun). if_shard x.node (g x)) (map (begun c) (map (λ (s : ℕ). ShardServer d s) ss)) ≡ map (λ (s : ℕ). g (begun c (ShardServer d s))) ss
its_shards g c d [] = refl
its_shards g c d (s ∷ ss) = ap (λ (xs : List _). g (begun c (ShardServer d s)) ∷ xs) (its_shards g c d ss)

all_coords : {X : Type 0} (g : Begun → X) (c : Layout) (ds : List ℕ) → flat_map (λ (x : Begun). if_coord x.node (g x)) (map (begun c) (flat_map (nodes_of_dc c) ds)) ≡ map (λ (d : ℕ). g (begun c (Coord d))) ds
all_coords g c [] = refl
all_coords g c (d ∷ ds) =
    ap (flat_map (λ (x : Begun). if_coord x.node (g x))) (map_append (begun c) (nodes_of_dc c d) (flat_map (nodes_of_dc c) ds))
    ∙ flat_append (λ (x : Begun). if_coord x.node (g x)) (map (begun c) (nodes_of_dc c d)) (map (begun c) (flat_map (nodes_of_dc c) ds))
    ∙ ap (λ (xs : List _). (g (begun c (Coord d)) ∷ xs) ++ flat_map (λ (x : Begun). if_coord x.node (g x)) (map (begun c) (flat_map (nodes_of_dc c) ds))) (no_coords g c d (up_to c.shards))
    ∙ ap (λ (xs : List _). g (begun c (Coord d)) ∷ xs) (all_coords g c ds)

all_shards : {X : Type 0} (g : Begun → X) (c : Layout) (ds : List ℕ)
    → flat_map (λ (x : Begun). if_shard x.node (g x)) (map (begun c) (flat_map (nodes_of_dc c) ds)) ≡ flat_map (λ (d : ℕ). map (λ (s : ℕ). g (begun c (ShardServer d s))) (up_to c.shards)) ds
all_shards g c [] = refl
all_shards g c (d ∷ ds) =
    ap (flat_map (λ (x : Begun). if_shard x.node (g x))) (map_append (begun c) (nodes_of_dc c d) (flat_map (nodes_of_dc c) ds))
    ∙ flat_append (λ (x : Begun). if_shard x.node (g x)) (map (begun c) (nodes_of_dc c d)) (map (begun c) (flat_map (nodes_of_dc c) ds))
    ∙ ap (λ (xs : List _). xs ++ flat_map (λ (x : Begun). if_shard x.node (g x)) (map (begun c) (flat_map (nodes_of_dc c) ds))) (its_shards g c d (up_to c.shards))
    ∙ ap (λ (xs : List _). map (λ (s : ℕ). g (begun c (ShardServer d s))) (up_to c.shards) ++ xs) (all_shards g c ds)

mapped : {X Y : Type 0} (f : X → Y) (g : ℕ → X) (ns : List ℕ) → map f (map g ns) ≡ map (λ (n : ℕ). f (g n)) ns
mapped f g [] = refl
mapped f g (n ∷ ns) = ap (λ (xs : List _). f (g n) ∷ xs) (mapped f g ns)

flat_mapped : {X Y : Type 0} (f : X → Y) (g : ℕ → ℕ → X) (ss ds : List ℕ) → map f (flat_map (λ (d : ℕ). map (g d) ss) ds) ≡ flat_map (λ (d : ℕ). map (λ (s : ℕ). f (g d s)) ss) ds
flat_mapped f g ss [] = refl
flat_mapped f g ss (d ∷ ds) =
    map_append f (map (g d) ss) (flat_map (λ (e : ℕ). map (g e) ss) ds) ∙ ap (λ (xs : List _). xs ++ map f (flat_map (λ (e : ℕ). map (g e) ss) ds)) (mapped f (g d) ss)
    ∙ ap (λ (xs : List _). map (λ (s : ℕ). f (g d s)) ss ++ xs) (flat_mapped f g ss ds)

none_named : (c : Layout) (ds : List ℕ) → named_by_coords [] (map (λ (d : ℕ). coord_started []) ds) ≡ []
none_named c [] = refl
none_named c (d ∷ ds) = none_named c ds

none_behind : (ss : List ℕ) (rest : List ShardNode) → named_by_shards [] rest ≡ [] → named_by_shards [] (map (λ (s : ℕ). shard_started []) ss ++ rest) ≡ []
none_behind [] rest none = none
none_behind (s ∷ ss) rest none = none_behind ss rest none

none_by_shards : (ss ds : List ℕ) → named_by_shards [] (flat_map (λ (d : ℕ). map (λ (s : ℕ). shard_started []) ss) ds) ≡ []
none_by_shards ss [] = refl
none_by_shards ss (d ∷ ds) = none_behind ss (flat_map (λ (e : ℕ). map (λ (s : ℕ). shard_started []) ss) ds) (none_by_shards ss ds)

none_chosen : (c : Layout) (cs : List CoordNode) (ds : List ℕ) → all_choices c cs [] (map (λ (d : ℕ). coord_started []) ds) ≡ []
none_chosen c cs [] = refl
none_chosen c cs (d ∷ ds) = none_chosen c cs ds

pub begun_session : (c : Layout) → ((d : ℕ) → 1 ≤ d → d ≤ c.dcs → Begins c (Coord d)) → ((d s : ℕ) → 1 ≤ d → d ≤ c.dcs → 1 ≤ s → s ≤ c.shards → Begins c (ShardServer d s))
    → new_session in_memory c ≡ Ok (session_of (housed c (coord_sites c c.dcs) (shard_sites c c.dcs) [] []) new_network 0 0)
begun_session c coords shards =
    let xs : List Begun = map (begun c) (nodes_of c) in
    let nodes : coords_of xs ≡ map (λ (d : ℕ). coord_started []) (up_to c.dcs) = all_coords (λ (x : Begun). coord_started x.log) c (up_to c.dcs) in
    let cs : coords_of xs ≡ coord_nodes (coord_sites c c.dcs) = nodes ∙ sym (mapped (λ (s : CoordSite). s.node) (coord_site c) (up_to c.dcs)) in
    let ss : shards_of xs ≡ shard_nodes (shard_sites c c.dcs) = all_shards (λ (x : Begun). shard_started x.log) c (up_to c.dcs) ∙ sym (flat_mapped (λ (s : ShardSite). s.node) (shard_site c) (up_to c.shards) (up_to c.dcs)) in
    let cds : flat_map (λ (x : Begun). if_coord x.node x.device) xs ≡ coord_devices (coord_sites c c.dcs) = all_coords (λ (x : Begun). x.device) c (up_to c.dcs) ∙ sym (mapped (λ (s : CoordSite). s.device) (coord_site c) (up_to c.dcs)) in
    let sds : flat_map (λ (x : Begun). if_shard x.node x.device) xs ≡ shard_devices (shard_sites c c.dcs) = all_shards (λ (x : Begun). x.device) c (up_to c.dcs) ∙ sym (flat_mapped (λ (s : ShardSite). s.device) (shard_site c) (up_to c.shards) (up_to c.dcs)) in
    let chosen : all_choices c (coords_of xs) [] (coords_of xs) ≡ [] = ap (all_choices c (coords_of xs) []) nodes ∙ none_chosen c (coords_of xs) (up_to c.dcs) in
    let named : named_by_shards (named_by_coords [] (coords_of xs)) (shards_of xs) ≡ [] =
    ap (λ (ns : List ℕ). named_by_shards ns (shards_of xs)) (ap (named_by_coords []) nodes ∙ none_named c (up_to c.dcs))
    ∙ ap (named_by_shards []) (all_shards (λ (x : Begun). shard_started x.log) c (up_to c.dcs)) ∙ none_by_shards (up_to c.shards) (up_to c.dcs) in
    let make : List ℕ → List (ℕ × List Entry) → List CoordNode → List ShardNode → List Device → List Device → Result Session Halt = λ named committed a b u v.
    Ok (record { world = started_world c (record { named = named; committed = committed }) a b; coords = u; shards = v; text = 0 }) in
    ap (session_from c) (begin_all c (nodes_of c) (nodes_begin c coords shards))
    ∙ ap (λ (named : List ℕ). make named (all_choices c (coords_of xs) [] (coords_of xs)) (coords_of xs) (shards_of xs) (flat_map (λ (x : Begun). if_coord x.node x.device) xs) (flat_map (λ (x : Begun). if_shard x.node x.device) xs)) named
    ∙ ap (λ (committed : List (ℕ × List Entry)). make [] committed (coords_of xs) (shards_of xs) (flat_map (λ (x : Begun). if_coord x.node x.device) xs) (flat_map (λ (x : Begun). if_shard x.node x.device) xs)) chosen
    ∙ ap (λ (a : List CoordNode). make [] [] a (shards_of xs) (flat_map (λ (x : Begun). if_coord x.node x.device) xs) (flat_map (λ (x : Begun). if_shard x.node x.device) xs)) cs
    ∙ ap (λ (b : List ShardNode). make [] [] (coord_nodes (coord_sites c c.dcs)) b (flat_map (λ (x : Begun). if_coord x.node x.device) xs) (flat_map (λ (x : Begun). if_shard x.node x.device) xs)) ss
    ∙ ap (λ (u : List Device). make [] [] (coord_nodes (coord_sites c c.dcs)) (shard_nodes (shard_sites c c.dcs)) u (flat_map (λ (x : Begun). if_shard x.node x.device) xs)) cds
    ∙ ap (make [] [] (coord_nodes (coord_sites c c.dcs)) (shard_nodes (shard_sites c c.dcs)) (coord_devices (coord_sites c c.dcs))) sds
