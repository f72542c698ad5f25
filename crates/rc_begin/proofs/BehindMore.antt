-- A coordinator or a shard server more has begun.
use Rattle.std.proofs.Common.{◌≡◌, ℕ, List, [], ◌∷◌, ◌++◌, length, map, refl, sym, ap, ◌∙◌, subst}
use Rattle.std.proofs.lemmas.List.{append-nil, map-append}
use Rattle.std.proofs.lemmas.Grind.{flat_map-append}
use Rattle.std.specs.List.{flat_map}
use Rattle.rc_ids.specs.declared.names.NodeId.{NodeId}
use Rattle.rc_ids.specs.declared.names.NodeId.TheVariants.{Coord, Shard as ShardServer}
use Rattle.rc_record.specs.declared.record.Record.{Record}
use Rattle.rc_protocol.specs.Nodes.{CoordNode, ShardNode, coord_started, shard_started}
use Rattle.rc_runs.specs.Stored.{Place, Begun, begins_node, if_coord, if_shard, coords_of, shards_of, records_of}
use Rattle.rc_host.specs.AnyNode.{coord_back, shard_back}
use Rattle.rc_host.specs.Standing.{coord_standing, shard_standing}
use Rattle.rc_host.specs.Hosts.{IsHost, IsToldBy}
use Rattle.rc_host.specs.declared.host.Host.{Host}
use Rattle.rc_begin.specs.Beginnings.{IsNext}
use Rattle.rc_begin.specs.Places.{coord_name, shard_name, AreAt}
use Rattle.rc_begin.specs.Hosts.{Runs, Views, run_at, IsCoord, IsShard, CoordsAreTold, ShardsAreTold}
use Rattle.rc_begin.specs.Gatherings.{AreGathered, coord_devices, shard_devices}
use Rattle.rc_begin.proofs.Behind.{one_behind, all_end, begins_more, begun_named}

-- WHAT IS MADE of a node more, for each kind
module _ {Y : Type 0} (of : Begun → Y) (xs : List Begun) (x : Begun) where
  coord_behind : (d : ℕ) → x.node ≡ Coord d
      → flat_map (λ (y : Begun). if_coord y.node (of y)) (xs ++ x ∷ []) ≡ flat_map (λ (y : Begun). if_coord y.node (of y)) xs ++ of x ∷ []
  coord_behind d is =
      flat_map-append (λ (y : Begun). if_coord y.node (of y)) xs (x ∷ [])
      ∙ ap (λ (n : NodeId). flat_map (λ (y : Begun). if_coord y.node (of y)) xs ++ (if_coord n (of x) ++ [])) is

  no_coord_behind : (d sh : ℕ) → x.node ≡ ShardServer d sh
      → flat_map (λ (y : Begun). if_coord y.node (of y)) (xs ++ x ∷ []) ≡ flat_map (λ (y : Begun). if_coord y.node (of y)) xs
  no_coord_behind d sh is =
      flat_map-append (λ (y : Begun). if_coord y.node (of y)) xs (x ∷ [])
      ∙ ap (λ (n : NodeId). flat_map (λ (y : Begun). if_coord y.node (of y)) xs ++ (if_coord n (of x) ++ [])) is
      ∙ append-nil _

  shard_behind : (d sh : ℕ) → x.node ≡ ShardServer d sh
      → flat_map (λ (y : Begun). if_shard y.node (of y)) (xs ++ x ∷ []) ≡ flat_map (λ (y : Begun). if_shard y.node (of y)) xs ++ of x ∷ []
  shard_behind d sh is =
      flat_map-append (λ (y : Begun). if_shard y.node (of y)) xs (x ∷ [])
      ∙ ap (λ (n : NodeId). flat_map (λ (y : Begun). if_shard y.node (of y)) xs ++ (if_shard n (of x) ++ [])) is

  no_shard_behind : (d : ℕ) → x.node ≡ Coord d
      → flat_map (λ (y : Begun). if_shard y.node (of y)) (xs ++ x ∷ []) ≡ flat_map (λ (y : Begun). if_shard y.node (of y)) xs
  no_shard_behind d is =
      flat_map-append (λ (y : Begun). if_shard y.node (of y)) xs (x ∷ [])
      ∙ ap (λ (n : NodeId). flat_map (λ (y : Begun). if_shard y.node (of y)) xs ++ (if_shard n (of x) ++ [])) is
      ∙ append-nil _

-- the records of one log more
log_behind : {X : Type 0} (log_of : X → List Record) (xs : List X) (x : X) (logs : List (List (List ℕ))) (blobs : List (List ℕ))
    → map log_of xs ≡ map records_of logs → log_of x ≡ records_of blobs → map log_of (xs ++ x ∷ []) ≡ map records_of (logs ++ blobs ∷ [])
log_behind log_of xs x logs blobs are is =
    map-append log_of xs (x ∷ [])
    ∙ ap (λ (rs : List (List Record)). rs ++ log_of x ∷ []) are
    ∙ ap (λ (r : List Record). map records_of logs ++ r ∷ []) is
    ∙ sym (map-append records_of logs (blobs ∷ []))

module _ {C S J D : Type 0} (v : Views C S J D) (r : Runs) (p : Place) (nodes : List NodeId) (coords : List (Host C J D)) (coord_logs : List (List (List ℕ)))
    (shards : List (Host S J D)) (shard_logs : List (List (List ℕ))) (are : AreGathered v r p nodes coords coord_logs shards shard_logs) where
  -- A COORDINATOR more
  pub coord_more : (coords_now : List (Host C J D)) (coord_logs_now : List (List (List ℕ))) (d : ℕ) → coord_name (length coords) ≡ Coord d
      → IsNext v.coords (coord_back (Coord d) r.cluster) (run_at r (Coord d)) (begins_node p r.cluster (Coord d)) coords coords_now coord_logs coord_logs_now
      → CoordsAreTold v.coords r coords_now
      → AreGathered v r p (nodes ++ Coord d ∷ []) coords_now coord_logs_now shards shard_logs
  coord_more coords_now coord_logs_now d here next told =
      let told_last : IsToldBy v.coords next.host (r.ended (coord_name (length coords))) =
      all_end (λ place h. IsToldBy v.coords h (r.ended (coord_name place))) coords next.host (subst (CoordsAreTold v.coords r) next.hosts_are told) in
      let begun = next.begun (subst (λ (n : NodeId). IsToldBy v.coords next.host (r.ended n)) here told_last) in
      let x = begun.begun in
      let named = begun_named p r.cluster (Coord d) x begun.is in
      let node = coord_started x.log in
      let is : IsCoord v.coords r (length coords) next.host node x.device = record {
        host = subst (λ (n : NodeId). IsHost v.coords (coord_back n r.cluster) (run_at r n) next.host (coord_standing node) x.device) (sym here) begun.host;
        replay = refl;
      } in
      let of_nodes : coords_of (are.begun ++ x ∷ []) ≡ coords_of are.begun ++ node ∷ [] = coord_behind (λ (y : Begun). coord_started y.log) are.begun x d named in
      let of_devices : coord_devices (are.begun ++ x ∷ []) ≡ coord_devices are.begun ++ x.device ∷ [] = coord_behind (λ (y : Begun). y.device) are.begun x d named in
      record {
        begun = are.begun ++ x ∷ [];
        is = begins_more p r.cluster nodes (Coord d) are.begun x are.is begun.is;
        of_coords =
            subst (λ (hs : List (Host C J D)). AreAt (IsCoord v.coords r) hs (coords_of (are.begun ++ x ∷ [])) (coord_devices (are.begun ++ x ∷ []))) (sym next.hosts_are)
            (subst (λ (xs : List CoordNode). AreAt (IsCoord v.coords r) (coords ++ next.host ∷ []) xs (coord_devices (are.begun ++ x ∷ []))) (sym of_nodes)
            (subst (AreAt (IsCoord v.coords r) (coords ++ next.host ∷ []) (coords_of are.begun ++ node ∷ [])) (sym of_devices)
            (one_behind (IsCoord v.coords r) coords (coords_of are.begun) (coord_devices are.begun) are.of_coords next.host node x.device is)));
        of_shards =
            subst (λ (xs : List ShardNode). AreAt (IsShard v.shards r) shards xs (shard_devices (are.begun ++ x ∷ []))) (sym (no_shard_behind (λ (y : Begun). shard_started y.log) are.begun x d named))
            (subst (AreAt (IsShard v.shards r) shards (shards_of are.begun)) (sym (no_shard_behind (λ (y : Begun). y.device) are.begun x d named)) are.of_shards);
        logs_of_coords =
            ap (map (λ (y : CoordNode). y.log)) of_nodes
            ∙ log_behind (λ (y : CoordNode). y.log) (coords_of are.begun) node coord_logs next.blobs are.logs_of_coords begun.log
            ∙ sym (ap (map records_of) next.logs_are);
        logs_of_shards = ap (map (λ (y : ShardNode). y.log)) (no_shard_behind (λ (y : Begun). shard_started y.log) are.begun x d named) ∙ are.logs_of_shards;
      }

  -- A SHARD SERVER more
  pub shard_more : (shards_now : List (Host S J D)) (shard_logs_now : List (List (List ℕ))) (d sh : ℕ) → shard_name r.cluster (length shards) ≡ ShardServer d sh
      → IsNext v.shards (shard_back (ShardServer d sh) r.cluster) (run_at r (ShardServer d sh)) (begins_node p r.cluster (ShardServer d sh)) shards shards_now shard_logs shard_logs_now
      → ShardsAreTold v.shards r shards_now
      → AreGathered v r p (nodes ++ ShardServer d sh ∷ []) coords coord_logs shards_now shard_logs_now
  shard_more shards_now shard_logs_now d sh here next told =
      let told_last : IsToldBy v.shards next.host (r.ended (shard_name r.cluster (length shards))) =
      all_end (λ place h. IsToldBy v.shards h (r.ended (shard_name r.cluster place))) shards next.host (subst (ShardsAreTold v.shards r) next.hosts_are told) in
      let begun = next.begun (subst (λ (n : NodeId). IsToldBy v.shards next.host (r.ended n)) here told_last) in
      let x = begun.begun in
      let named = begun_named p r.cluster (ShardServer d sh) x begun.is in
      let node = shard_started x.log in
      let is : IsShard v.shards r (length shards) next.host node x.device = record {
        host = subst (λ (n : NodeId). IsHost v.shards (shard_back n r.cluster) (run_at r n) next.host (shard_standing node) x.device) (sym here) begun.host;
        replay = refl;
      } in
      let of_nodes : shards_of (are.begun ++ x ∷ []) ≡ shards_of are.begun ++ node ∷ [] = shard_behind (λ (y : Begun). shard_started y.log) are.begun x d sh named in
      let of_devices : shard_devices (are.begun ++ x ∷ []) ≡ shard_devices are.begun ++ x.device ∷ [] = shard_behind (λ (y : Begun). y.device) are.begun x d sh named in
      record {
        begun = are.begun ++ x ∷ [];
        is = begins_more p r.cluster nodes (ShardServer d sh) are.begun x are.is begun.is;
        of_coords =
            subst (λ (xs : List CoordNode). AreAt (IsCoord v.coords r) coords xs (coord_devices (are.begun ++ x ∷ []))) (sym (no_coord_behind (λ (y : Begun). coord_started y.log) are.begun x d sh named))
            (subst (AreAt (IsCoord v.coords r) coords (coords_of are.begun)) (sym (no_coord_behind (λ (y : Begun). y.device) are.begun x d sh named)) are.of_coords);
        of_shards =
            subst (λ (hs : List (Host S J D)). AreAt (IsShard v.shards r) hs (shards_of (are.begun ++ x ∷ [])) (shard_devices (are.begun ++ x ∷ []))) (sym next.hosts_are)
            (subst (λ (xs : List ShardNode). AreAt (IsShard v.shards r) (shards ++ next.host ∷ []) xs (shard_devices (are.begun ++ x ∷ []))) (sym of_nodes)
            (subst (AreAt (IsShard v.shards r) (shards ++ next.host ∷ []) (shards_of are.begun ++ node ∷ [])) (sym of_devices)
            (one_behind (IsShard v.shards r) shards (shards_of are.begun) (shard_devices are.begun) are.of_shards next.host node x.device is)));
        logs_of_coords = ap (map (λ (y : CoordNode). y.log)) (no_coord_behind (λ (y : Begun). coord_started y.log) are.begun x d sh named) ∙ are.logs_of_coords;
        logs_of_shards =
            ap (map (λ (y : ShardNode). y.log)) of_nodes
            ∙ log_behind (λ (y : ShardNode). y.log) (shards_of are.begun) node shard_logs next.blobs are.logs_of_shards begun.log
            ∙ sym (ap (map records_of) next.logs_are);
      }
