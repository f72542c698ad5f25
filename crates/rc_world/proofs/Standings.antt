-- Which nodes of the world are up, off their hosts.
use Rattle.std.proofs.Common.{◌≡◌, ℕ, Bool, true, false, List, length, Option, None, Some, ◌<◌, refl, sym, ◌∙◌, ap, subst}
use Rattle.std.specs.Prelude.{slice_get, if◌then◌else◌}
use Rattle.std.proofs.lemmas.Option.{slice_get_within}
use Rattle.rc_ids.specs.Cluster.{Layout, is_dc}
use Rattle.rc_ids.specs.Tables.{maybe}
use Rattle.rc_protocol.specs.Nodes.{CoordNode, ShardNode, coord_index, shard_index}
use Rattle.rc_runs.specs.Devices.{Device}
use Rattle.rc_ids.specs.declared.names.NodeId.TheVariants.{Coord, Shard as ShardServer}
use Rattle.rc_runs.specs.World.{Parties, is_shard_of, is_up as is_node_up}
use Rattle.rc_host.specs.AnyNode.{coord_back, shard_back}
use Rattle.rc_host.specs.Standing.{coord_standing, shard_standing}
use Rattle.rc_host.specs.Hosts.{is_up}
use Rattle.rc_host.specs.declared.host.Host.{Host}
use Rattle.rc_begin.specs.Places.{AreAt, coord_name, shard_name}
use Rattle.rc_begin.specs.Hosts.{Views, Runs, run_at, IsCoord, IsShard, is_up_at}
use Rattle.rc_world.specs.Worlds.{Parts, AreParties}
use Rattle.rc_begin.proofs.Lists.{stands}
use Rattle.rc_world.proofs.ShardTurns.{up_is}

-- each node stands as its host does
module _ {N J D X : Type 0} (Is : ℕ → Host N J D → X → Device → Type 0) (up : X → Bool) (alike : (place : ℕ) (h : Host N J D) (x : X) (d : Device) → Is place h x d → up x ≡ is_up h)
    (hosts : List (Host N J D)) (nodes : List X) (devices : List Device) (are : AreAt Is hosts nodes devices) where
  pub up_there : (i : ℕ) → is_up_at hosts i ≡ maybe (slice_get nodes i) false up
  up_there i = by_node (slice_get nodes i) refl (slice_get hosts i) refl
    where
      by_node : (n : Option X) → slice_get nodes i ≡ n → (o : Option (Host N J D)) → slice_get hosts i ≡ o → maybe o false (λ h. is_up h) ≡ maybe n false up
      by_node None none None at = refl
      by_node None none (Some h) at =
          let within : i < length nodes = subst (λ (n : ℕ). i < n) (sym are.as_nodes) (slice_get_within hosts i h at) in
          let x = stands nodes i within in absurd (cc)
      by_node (Some x) at_node None none =
          let within : i < length hosts = subst (λ (n : ℕ). i < n) are.as_nodes (slice_get_within nodes i x at_node) in
          let h = stands hosts i within in absurd (cc)
      by_node (Some x) at_node (Some h) at =
          let within : i < length devices = subst (λ (n : ℕ). i < n) (sym are.as_devices) (slice_get_within hosts i h at) in
          let d = stands devices i within in sym (alike i h x d.0 (are.each i h x d.0 at at_node d.1))

module _ {C S J D : Type 0} (v : Views C S J D) (r : Runs) (w : Parts (Host C J D) (Host S J D)) (p : Parties) (coords shards : List Device) (are : AreParties v r w p coords shards) where
  same : w.cluster ≡ p.layout
  same = are.cluster ∙ sym are.layout

  pub coord_up : (d : ℕ) → (if is_dc w.cluster d then is_up_at w.coords (coord_index d) else false) ≡ is_node_up p (Coord d)
  coord_up d = ap (λ (c : Layout). if is_dc c d then is_up_at w.coords (coord_index d) else false) same ∙ by_place (is_dc p.layout d)
    where
      at : (place : ℕ) (h : Host C J D) (x : CoordNode) (e : Device) → IsCoord v.coords r place h x e → x.up ≡ is_up h
      at place h x e is = up_is v.coords (coord_back (coord_name place) r.cluster) (run_at r (coord_name place)) h (coord_standing x) e is.host

      by_place : (b : Bool) → (if b then is_up_at w.coords (coord_index d) else false) ≡ maybe (if b then slice_get p.coords (coord_index d) else None) false (λ (x : CoordNode). x.up)
      by_place true = up_there (IsCoord v.coords r) (λ (x : CoordNode). x.up) at w.coords p.coords coords are.hosts.of_coords (coord_index d)
      by_place false = refl

  pub shard_up : (d sh : ℕ) → (if is_shard_of w.cluster d sh then is_up_at w.shards (shard_index w.cluster d sh) else false) ≡ is_node_up p (ShardServer d sh)
  shard_up d sh = ap (λ (c : Layout). if is_shard_of c d sh then is_up_at w.shards (shard_index c d sh) else false) same ∙ by_place (is_shard_of p.layout d sh)
    where
      at : (place : ℕ) (h : Host S J D) (x : ShardNode) (e : Device) → IsShard v.shards r place h x e → x.up ≡ is_up h
      at place h x e is = up_is v.shards (shard_back (shard_name r.cluster place) r.cluster) (run_at r (shard_name r.cluster place)) h (shard_standing x) e is.host

      by_place : (b : Bool) → (if b then is_up_at w.shards (shard_index p.layout d sh) else false) ≡ maybe (if b then slice_get p.shards (shard_index p.layout d sh) else None) false (λ (x : ShardNode). x.up)
      by_place true = up_there (IsShard v.shards r) (λ (x : ShardNode). x.up) at w.shards p.shards shards are.hosts.of_shards (shard_index p.layout d sh)
      by_place false = refl
