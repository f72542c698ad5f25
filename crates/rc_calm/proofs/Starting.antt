-- A session begins on empty disks of which no call fails: all is at rest, and no transaction was there.
use Rattle.std.proofs.Common.{◌≡◌, ℕ, zero, suc, ◌+◌, ◌*◌, ◌≤◌, ◌<◌, List, [], ◌∷◌, ◌++◌, refl, ap, ◌∙◌, subst, arith, Bool, true, false, Some, None}
use Rattle.std.specs.Prelude.{length, map, slice_get, nat_lt, ◌-◌, ◌==◌, ◌&&◌, if◌then◌else◌, Ok, Err}
use Rattle.std.specs.List.{flat_map, list_all}
use Rattle.std.proofs.lemmas.Bool.{le-ltb, eqb-true}
use Rattle.std.proofs.lemmas.Grind.{flat_map-append}
use Rattle.rc_ids.specs.Tables.{up_to}
use Rattle.rc_ids.specs.Cluster.{Layout, IsLayout, is_key, is_weight, are_weights}
use Rattle.rc_ids.specs.declared.names.NodeId.{NodeId}
use Rattle.rc_ids.specs.declared.names.NodeId.TheVariants.{Coord, Shard as ShardServer}
use Rattle.rc_ids.proofs.LayoutFacts.{dc_count_range, splits_count}
use Rattle.rc_fields.specs.Spelling.{key_bytes, node_bytes}
use Rattle.rc_body.specs.declared.entry.Entry.{Entry}
use Rattle.rc_record.specs.Heads.{new_head}
use Rattle.rc_record.specs.declared.record.Record.TheVariants.{Head}
use Rattle.rc_protocol.specs.Coordinator.{new_volatile}
use Rattle.rc_protocol.specs.Nodes.{CoordNode, ShardNode, coord_started, shard_started, coord_index, shard_index}
use Rattle.rc_runs.specs.World.{Parties, new_start}
use Rattle.rc_runs.specs.Starts.{start_of, named_by_coords, named_by_shards, all_choices}
use Rattle.rc_runs.specs.Devices.{Device, called, at_offset, new_device, most_log_bytes, record_length}
use Rattle.rc_runs.specs.Session.{Session, FarmFails}
use Rattle.rc_runs.specs.Stored.{Place, Begun, opens_log, begins_node, begins_all, nodes_of, nodes_of_dc, if_coord, if_shard, coords_of, shards_of, session_of, session_from, new_session}
use Rattle.rc_claims.specs.Calm.{calm_start}
use Rattle.rc_claims.specs.CalmScripts.{IsFaultless}
use Rattle.rc_calm_batches.proofs.ReadDrains.{length_both}
use Rattle.rc_calm_batches.proofs.Sizes.{log_bytes}
use Rattle.rc_calm_batches.proofs.Slots.{some_is}
use Rattle.rc_calm_batches.proofs.Stages.{AtRest, Shards, shard_is}
use Rattle.rc_calm_batches.proofs.Coords.{Coords, CoordIs}
use Rattle.rc_calm.proofs.Logs.{Fit, Takes}
use Rattle.rc_calm.proofs.Room.{get_low}
use Rattle.rc_calm.proofs.Between.{Sane, Between}

-- A HEAD is short
both_of : (a b : Bool) → (a && b) ≡ true → (a ≡ true) × (b ≡ true)
both_of true b h = (refl, h)
both_of false b h = absurd (cc)

key_short : (k : List ℕ) → is_key k ≡ true → length (key_bytes k) ≤ 65
key_short k h = let n : length k ≤ 64 = grind (arith, h) in omega (arith, n)

keys_length : (ks : List (List ℕ)) → list_all is_key ks ≡ true → length (flat_map key_bytes ks) ≤ length ks * 65
keys_length [] h = omega arith
keys_length (k ∷ ks) h =
    let a = both_of (is_key k) (list_all is_key ks) h in
    let short = key_short k a.0 in
    let more = keys_length ks a.1 in
    let l = length_both (key_bytes k) (flat_map key_bytes ks) in
    let z : suc (length ks) * 65 ≡ 65 + length ks * 65 = grind (arith) in
    omega (arith, short, more, l, z)

node_length : (node : NodeId) → length (node_bytes node) ≤ 3
node_length (Coord d) = omega arith
node_length (ShardServer d s) = omega arith

weights_length : (n : ℕ) (ws : List ℕ) → are_weights n ws ≡ true → length ws ≡ n
weights_length n ws h = eqb-true (length ws) n (both_of (length ws == n) (list_all is_weight ws) h).0

head_length : (c : Layout) (node : NodeId) → IsLayout c → record_length (Head (new_head node c)) ≤ 600
head_length c node h =
    let a = length_both (node_bytes node ++ (c.dcs ∷ c.shards ∷ [])) (c.weights ++ flat_map key_bytes c.splits) in
    let a2 = length_both (node_bytes node) (c.dcs ∷ c.shards ∷ []) in
    let b = length_both c.weights (flat_map key_bytes c.splits) in
    let n = node_length node in
    let w = weights_length c.dcs c.weights h.weights in
    let d = (dc_count_range c.dcs h.dcs).1 in
    let s = splits_count c h in
    let s0 = s.0 in
    let s1 = s.1 in
    let k = keys_length c.splits h.keys in
    omega (arith, a, a2, b, n, w, d, s0, s1, k)

-- A NODE begins
abbrev begun_device : Layout → NodeId → Device
begun_device c node = at_offset (called (called (called (called (called (called (new_device [] []))))))) (0 + 5 + record_length (Head (new_head node c)))

abbrev begun_of : Layout → NodeId → Begun
begun_of c node = record { node = node; device = begun_device c node; log = [] }

module _ (p : Place) (c : Layout) (faultless : IsFaultless p) (is_layout : IsLayout c) where
  opens_empty : (node : NodeId) → opens_log c node (new_device [] []) [] ≡ Ok (begun_of c node)
  opens_empty node =
      let h = head_length c node is_layout in
      let fine : nat_lt most_log_bytes (0 + 5 + record_length (Head (new_head node c)) + 1) ≡ false = le-ltb most_log_bytes (0 + 5 + record_length (Head (new_head node c)) + 1) (omega (arith, h)) in
      rw fine

  node_begins : (node : NodeId) → begins_node p c node ≡ Ok (begun_of c node)
  node_begins node =
      ap (λ (v : Bool). if v then Err FarmFails else opens_log c node (new_device (p.failing node) (p.failing_reads node)) (p.content node)) (faultless.lends node)
      ∙ (ap (λ (ns : List ℕ). opens_log c node (new_device ns (p.failing_reads node)) (p.content node)) (faultless.failing node)
      ∙ (ap (λ (ns : List ℕ). opens_log c node (new_device [] ns) (p.content node)) (faultless.failing_reads node)
      ∙ (ap (opens_log c node (new_device [] [])) (faultless.content node) ∙ opens_empty node)))

  all_begin : (ns : List NodeId) → begins_all p c ns ≡ Ok (map (begun_of c) ns)
  all_begin [] = refl
  all_begin (n ∷ ns) = let a = node_begins n in let b = all_begin ns in rw (a, b)

  pub starts : new_session p c ≡ Ok (session_of c (map (begun_of c) (nodes_of c)))
  starts = ap (session_from c) (all_begin (nodes_of c))

-- HOW MANY
abbrev coords_in : List NodeId → ℕ
coords_in [] = 0
coords_in (Coord d ∷ ns) = suc (coords_in ns)
coords_in (ShardServer d s ∷ ns) = coords_in ns

abbrev shards_in : List NodeId → ℕ
shards_in [] = 0
shards_in (Coord d ∷ ns) = shards_in ns
shards_in (ShardServer d s ∷ ns) = suc (shards_in ns)

coords_both : (a b : List NodeId) → coords_in (a ++ b) ≡ coords_in a + coords_in b
coords_both [] b = omega arith
coords_both (Coord d ∷ a) b = let h = coords_both a b in omega (arith, h)
coords_both (ShardServer d s ∷ a) b = coords_both a b

shards_both : (a b : List NodeId) → shards_in (a ++ b) ≡ shards_in a + shards_in b
shards_both [] b = omega arith
shards_both (Coord d ∷ a) b = shards_both a b
shards_both (ShardServer d s ∷ a) b = let h = shards_both a b in omega (arith, h)

servers : (d : ℕ) (ns : List ℕ) → (coords_in (map (λ (sh : ℕ). ShardServer d sh) ns) ≡ 0) × (shards_in (map (λ (sh : ℕ). ShardServer d sh) ns) ≡ length ns)
servers d [] = (refl, refl)
servers d (n ∷ ns) = let h = servers d ns in (h.0, ap suc h.1)

pub length_up : (n : ℕ) → length (up_to n) ≡ n
length_up zero = refl
length_up (suc n) = let h = length_up n in let l = length_both (up_to n) (suc n ∷ []) in omega (arith, h, l)

nodes_count : (c : Layout) (n : ℕ) → (coords_in (flat_map (nodes_of_dc c) (up_to n)) ≡ n) × (shards_in (flat_map (nodes_of_dc c) (up_to n)) ≡ n * c.shards)
nodes_count c zero = (refl, grind (arith))
nodes_count c (suc n) =
    let h = nodes_count c n in
    let h0 = h.0 in
    let h1 = h.1 in
    let s = servers (suc n) (up_to c.shards) in
    let s0 = s.0 in
    let s1 = s.1 in
    let u = length_up c.shards in
    let both = flat_map-append (nodes_of_dc c) (up_to n) (suc n ∷ []) in
    let a = ap coords_in both ∙ coords_both (flat_map (nodes_of_dc c) (up_to n)) (flat_map (nodes_of_dc c) (suc n ∷ [])) in
    let b = ap shards_in both ∙ shards_both (flat_map (nodes_of_dc c) (up_to n)) (flat_map (nodes_of_dc c) (suc n ∷ [])) in
    let a1 = coords_both (nodes_of_dc c (suc n)) [] in
    let b1 = shards_both (nodes_of_dc c (suc n)) [] in
    let z : suc n * c.shards ≡ n * c.shards + c.shards = grind (arith) in
    (omega (arith, a, a1, h0, s0), omega (arith, b, b1, h1, s1, u, z))

-- WHAT STANDS IN EACH
get_there : {X : Type 0} (xs : List X) (i : ℕ) → i < length xs → (x : X) × (slice_get xs i ≡ Some x)
get_there [] i h = absurd (omega (arith, h))
get_there (x ∷ xs) zero h = (x, refl)
get_there (x ∷ xs) (suc i) h = get_there xs i (omega (arith, h))

module _ {X : Type 0} (c : Layout) (f : Begun → X) where
  abbrev of_coords : List NodeId → List X
  of_coords ns = flat_map (λ (x : Begun). if_coord x.node (f x)) (map (begun_of c) ns)

  abbrev of_shards : List NodeId → List X
  of_shards ns = flat_map (λ (x : Begun). if_shard x.node (f x)) (map (begun_of c) ns)

  coords_length : (ns : List NodeId) → length (of_coords ns) ≡ coords_in ns
  coords_length [] = refl
  coords_length (Coord d ∷ ns) = ap suc (coords_length ns)
  coords_length (ShardServer d s ∷ ns) = coords_length ns

  shards_length : (ns : List NodeId) → length (of_shards ns) ≡ shards_in ns
  shards_length [] = refl
  shards_length (Coord d ∷ ns) = shards_length ns
  shards_length (ShardServer d s ∷ ns) = ap suc (shards_length ns)

  module _ (Q : X → Type 0) (each : (node : NodeId) → Q (f (begun_of c node))) where
    coords_all : (ns : List NodeId) (i : ℕ) (x : X) → slice_get (of_coords ns) i ≡ Some x → Q x
    coords_all [] i x h = absurd (cc)
    coords_all (Coord d ∷ ns) zero x h = subst Q (some_is (f (begun_of c (Coord d))) x h) (each (Coord d))
    coords_all (Coord d ∷ ns) (suc i) x h = coords_all ns i x h
    coords_all (ShardServer d s ∷ ns) i x h = coords_all ns i x h

    shards_all : (ns : List NodeId) (i : ℕ) (x : X) → slice_get (of_shards ns) i ≡ Some x → Q x
    shards_all [] i x h = absurd (cc)
    shards_all (Coord d ∷ ns) i x h = shards_all ns i x h
    shards_all (ShardServer d s ∷ ns) zero x h = subst Q (some_is (f (begun_of c (ShardServer d s))) x h) (each (ShardServer d s))
    shards_all (ShardServer d s ∷ ns) (suc i) x h = shards_all ns i x h

-- THE LOGS SAY NOTHING
coords_name : (c : Layout) (ns : List NodeId) → named_by_coords [] (coords_of (map (begun_of c) ns)) ≡ []
coords_name c [] = refl
coords_name c (Coord d ∷ ns) = coords_name c ns
coords_name c (ShardServer d s ∷ ns) = coords_name c ns

shards_name : (c : Layout) (ns : List NodeId) → named_by_shards [] (shards_of (map (begun_of c) ns)) ≡ []
shards_name c [] = refl
shards_name c (Coord d ∷ ns) = shards_name c ns
shards_name c (ShardServer d s ∷ ns) = shards_name c ns

none_chosen : (c : Layout) (cs : List CoordNode) (ns : List NodeId) → all_choices c cs [] (coords_of (map (begun_of c) ns)) ≡ []
none_chosen c cs [] = refl
none_chosen c cs (Coord d ∷ ns) = none_chosen c cs ns
none_chosen c cs (ShardServer d s ∷ ns) = none_chosen c cs ns

says_nothing : (c : Layout) (ns : List NodeId) → start_of c (coords_of (map (begun_of c) ns)) (shards_of (map (begun_of c) ns)) ≡ new_start
says_nothing c ns =
    let cs = coords_of (map (begun_of c) ns) in
    let ss = shards_of (map (begun_of c) ns) in
    ap (λ (named : List ℕ). record { named = named_by_shards named ss; committed = all_choices c cs [] cs }) (coords_name c ns)
    ∙ (ap (λ (named : List ℕ). record { named = named; committed = all_choices c cs [] cs }) (shards_name c ns)
    ∙ ap (λ (chosen : List (ℕ × List Entry)). record { named = []; committed = chosen }) (none_chosen c cs ns))

-- THE SESSION
module _ (c : Layout) (is_layout : IsLayout c) where
  abbrev pub begun_session : Session
  begun_session = session_of c (map (begun_of c) (nodes_of c))

  abbrev parties : Parties
  parties = begun_session.world.parties

  coords_number : length parties.coords ≡ c.dcs
  coords_number = coords_length c (λ (x : Begun). coord_started x.log) (nodes_of c) ∙ (nodes_count c c.dcs).0

  shards_number : length parties.shards ≡ c.dcs * c.shards
  shards_number = shards_length c (λ (x : Begun). shard_started x.log) (nodes_of c) ∙ (nodes_count c c.dcs).1

  coords_rest : Coords c (λ d x. CoordIs [] [] new_volatile x) parties.coords
  coords_rest d d1 d2 =
      let n = coords_number in
      let z = get_there parties.coords (coord_index d) (omega (arith, n, d1, d2)) in
      let is = coords_all c (λ (x : Begun). coord_started x.log) (λ x. coord_started [] ≡ x) (λ node. refl) (nodes_of c) (coord_index d) z.0 z.1 in
      (z.0, z.1, subst (CoordIs [] [] new_volatile) is (record { up = refl; volatile = refl; promise = λ u k. refl; accepted = λ u k. refl; unvoted = λ u k. refl; outcome = λ u k. refl; bytes = omega arith }))

  index_low : (d s n k : ℕ) → 1 ≤ d → d ≤ n → 1 ≤ s → s ≤ k → (d - 1) * k + (s - 1) < n * k
  index_low d s n k d1 d2 s1 s2 =
      let e : n ≡ (d - 1) + suc (n - d) = omega (arith, d1, d2) in
      let z : n * k ≡ (d - 1) * k + (k + (n - d) * k) = ap (λ (x : ℕ). x * k) e ∙ grind (arith) in
      omega (arith, z, s1, s2)

  shards_rest : Shards (λ d s x. AtRest c [] [] 0 [] s x) parties
  shards_rest d s d1 d2 s1 s2 =
      let n = shards_number in
      let i = index_low d s c.dcs c.shards d1 d2 s1 s2 in
      let z = get_there parties.shards (shard_index c d s) (omega (arith, n, i)) in
      let is = shards_all c (λ (x : Begun). shard_started x.log) (λ x. shard_started [] ≡ x) (λ node. refl) (nodes_of c) (shard_index c d s) z.0 z.1 in (
        z.0,
        shard_is parties d s d1 d2 s1 s2 ∙ z.1,
        subst (AtRest c [] [] 0 [] s) is
            (record { up = refl; parts = refl; version = λ k e. refl; value = λ k e. refl; finished = λ u k. refl; lost = refl; waiting = refl; plain = λ k j. absurd j; bytes = omega arith }),
      )

  sane_start : Sane calm_start [] None true
  sane_start = record {
    once = tt;
    used = λ x i. absurd i;
    few = omega arith;
    ranges = λ x i. absurd i;
    were_begun = λ u i. absurd i;
    running = λ e. absurd (cc);
    none = λ e. refl;
    versions = λ k. omega arith;
    values = λ k. tt;
    numbers = λ u i. absurd i;
    due = refl;
  }

  coords_take : (i : ℕ) (x : Device) → slice_get begun_session.coords i ≡ Some x → Takes (λ (y : CoordNode). y.log) x 0
  coords_take i x at =
      coords_all c (λ (b : Begun). b.device) (λ d. Takes (λ (y : CoordNode). y.log) d 0) (λ node. record { failing = refl; cut = refl; offset = let h = head_length c node is_layout in omega (arith, h) }) (nodes_of c) i x at

  shards_take : (i : ℕ) (x : Device) → slice_get begun_session.shards i ≡ Some x → Takes (λ (y : ShardNode). y.log) x 0
  shards_take i x at =
      shards_all c (λ (b : Begun). b.device) (λ d. Takes (λ (y : ShardNode). y.log) d 0) (λ node. record { failing = refl; cut = refl; offset = let h = head_length c node is_layout in omega (arith, h) }) (nodes_of c) i x at

  coords_fit : Fit (λ (x : CoordNode). x.log) begun_session.coords parties.coords
  coords_fit i y at =
      let low = get_low parties.coords i y at in
      let n = coords_number in
      let m = coords_length c (λ (x : Begun). x.device) (nodes_of c) ∙ (nodes_count c c.dcs).0 in
      let z = get_there begun_session.coords i (omega (arith, low, n, m)) in
      let is = coords_all c (λ (x : Begun). coord_started x.log) (λ x. coord_started [] ≡ x) (λ node. refl) (nodes_of c) i y at in
      (z.0, z.1, subst (λ (w : CoordNode). Takes (λ (x : CoordNode). x.log) z.0 (log_bytes w.log)) is (coords_take i z.0 z.1))

  shards_fit : Fit (λ (x : ShardNode). x.log) begun_session.shards parties.shards
  shards_fit i y at =
      let low = get_low parties.shards i y at in
      let n = shards_number in
      let m = shards_length c (λ (x : Begun). x.device) (nodes_of c) ∙ (nodes_count c c.dcs).1 in
      let z = get_there begun_session.shards i (omega (arith, low, n, m)) in
      let is = shards_all c (λ (x : Begun). shard_started x.log) (λ x. shard_started [] ≡ x) (λ node. refl) (nodes_of c) i y at in
      (z.0, z.1, subst (λ (w : ShardNode). Takes (λ (x : ShardNode). x.log) z.0 (log_bytes w.log)) is (shards_take i z.0 z.1))

  pub start_between : Between c calm_start [] None true begun_session
  start_between = record {
    sane = sane_start;
    parties = record {
      layout = refl;
      start = says_nothing c (nodes_of c);
      coords = coords_rest;
      shards = shards_rest;
      sizes = record { coords = coords_number; shards = shards_number };
      order = refl;
      unknown = λ u n. refl;
      client = λ e. absurd (cc);
      clients = omega arith;
      count = refl;
      committed = omega arith;
    };
    queue = record { old = []; sent = refl; pending = refl };
    coords_fit = coords_fit;
    shards_fit = shards_fit;
  }
