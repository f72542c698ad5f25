-- A record of a coordinator with a spelling is logged.
use Rattle.std.proofs.Common.{◌≡◌, ℕ, Bool, List, [], ◌∷◌, ◌++◌, Option, Some, IfSome, refl, sym, subst, length-append}
use Rattle.rc_ids.specs.Cluster.{Layout}
use Rattle.rc_ids.specs.declared.names.NodeId.{NodeId}
use Rattle.rc_ids.specs.declared.names.NodeId.TheVariants.{Coord, Shard as ShardServer}
use Rattle.rc_log.specs.Journals.{list_state}
use Rattle.rc_record.specs.declared.record.Record.{Record}
use Rattle.rc_record.specs.CoordState.{coord_applied}
use Rattle.rc_record.specs.Reading.{decoded}
use Rattle.rc_record.specs.Spelling.{record_bytes, HasRecord}
use Rattle.rc_protocol.specs.Acts.{NodeCause}
use Rattle.rc_protocol.specs.Nodes.{applied}
use Rattle.rc_node.specs.Acts.{Enters}
use Rattle.rc_coord.specs.Replays.{GivesBack as GivesCoordBack, ReplayLaws}
use Rattle.rc_host.specs.AnyNode.{NodeDurable, NodeVolatile, OfShard, OfCoord, OfShardNow, OfCoordNow, node_act, coord_back}
use Rattle.rc_host.specs.Hosts.{AreLogged}
use Rattle.rc_host.proofs.Acting.{size_of_more}
use Rattle.rc_host.proofs.Logging.{at, shard_entry, coord_entry}

-- a journal in memory with one record more
one_more : (blobs : List (List ℕ)) (bytes : List ℕ) → Enters (list_state blobs) (list_state (blobs ++ bytes ∷ [])) bytes
one_more blobs bytes = record {
  adds = record {
    adds = refl;
    in_hand = refl;
    grows = sym (size_of_more blobs bytes);
    same_limit = refl;
    counts_it = length-append blobs (bytes ∷ []);
    sound = refl;
    writes = refl;
    calls = refl;
    numbers = refl;
    power_is = refl;
    on = tt;
    same_counts = record { same_faults = refl; same_cuts = refl };
  };
  fits = refl;
}

module _ (c : Layout) (again : (r : Record) → HasRecord r → decoded (record_bytes r) ≡ Some r) (up : Bool) (log : List Record) where
  pub coord_logged : (node : NodeId) → ReplayLaws node c → (s : NodeDurable) (v : NodeVolatile) (cause : NodeCause) → IfSome (node_act c node s v cause).logs HasRecord
      → AreLogged (coord_back node c) (at up log s v) (node_act c node s v cause)
  coord_logged (ShardServer d sh) laws (OfShard s) (OfShardNow v) cause has = shard_entry c again (coord_back (ShardServer d sh) c) up log cause d sh s v (λ r some blobs back. absurd back) has
  coord_logged (ShardServer d sh) laws (OfShard s) (OfCoordNow v) cause has = tt
  coord_logged (ShardServer d sh) laws (OfCoord s) v cause has = tt
  coord_logged (Coord d) laws (OfCoord s) (OfCoordNow v) cause has =
      coord_entry c again (coord_back (Coord d) c) up log cause d s v
      (λ r some spelled own blobs back.
      subst (λ (o : Option Record). GivesCoordBack (Coord d) c (blobs ++ record_bytes r ∷ []) (applied coord_applied s o)) (sym some)
      (laws.goes_on (list_state blobs) (list_state (blobs ++ record_bytes r ∷ [])) s (Some r) (one_more blobs (record_bytes r)) (own, spelled) back)) has
  coord_logged (Coord d) laws (OfCoord s) (OfShardNow v) cause has = tt
  coord_logged (Coord d) laws (OfShard s) v cause has = tt
