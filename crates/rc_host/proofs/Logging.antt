-- A record with a spelling is logged: behind records that give the state back it gives back the state after the act.
use Rattle.std.proofs.Common.{◌≡◌, ℕ, Bool, false, List, [], ◌∷◌, ◌++◌, Option, Some, None, IfSome, IsTrue, refl, ap, subst, ◌∙◌}
use Rattle.rc_ids.specs.Cluster.{Layout}
use Rattle.rc_ids.specs.Tables.{maybe}
use Rattle.rc_ids.specs.declared.names.NodeId.{NodeId}
use Rattle.rc_ids.specs.declared.names.NodeId.TheVariants.{Coord, Shard as ShardServer}
use Rattle.rc_record.specs.declared.record.Record.{Record}
use Rattle.rc_record.specs.declared.record.Record.TheVariants.{Head, Prepared, Finished, Promised, Accepted, Decided}
use Rattle.rc_record.specs.CoordState.{CoordDurable, coord_applied}
use Rattle.rc_record.specs.Kinds.{head_of, is_shard_record, is_coord_record}
use Rattle.rc_record.specs.Reading.{decoded}
use Rattle.rc_record.specs.ShardState.{ShardDurable, shard_applied}
use Rattle.rc_record.specs.Spelling.{record_bytes, HasRecord}
use Rattle.rc_protocol.specs.Acts.{NodeCause, shard_act, coord_act}
use Rattle.rc_protocol.specs.Coordinator.{CoordVolatile}
use Rattle.rc_protocol.specs.Nodes.{applied}
use Rattle.rc_protocol.specs.Shard.{ShardVolatile}
use Rattle.rc_node.specs.Acts.{shard_does, coord_does}
use Rattle.rc_runs.specs.Stored.{records_of, without_head}
use Rattle.rc_shard.specs.Replays.{GivesBack as GivesShardBack, with_record}
use Rattle.rc_host.specs.AnyNode.{NodeDurable, NodeVolatile, OfShard, OfCoord, OfShardNow, OfCoordNow, of_shard, of_coord, node_act, shard_back}
use Rattle.rc_host.specs.Standing.{Standing}
use Rattle.rc_host.specs.Hosts.{IsLogged, AreLogged}
use Rattle.rc_host.proofs.CoordRecords.{coord_records}
use Rattle.rc_host.proofs.ShardRecords.{shard_records}

abbrev pub at : Bool → List Record → NodeDurable → NodeVolatile → Standing
at up log s v = record { up = up; log = log; durable = s; volatile = v }

-- A RECORD THAT IS NO HEAD is read back as itself
alone : (r : Record) → head_of r ≡ None → without_head r ++ [] ≡ r ∷ []
alone (Head h) none = absurd cc
alone (Prepared t part) none = refl
alone (Finished page) none = refl
alone (Promised t b) none = refl
alone (Accepted t b o) none = refl
alone (Decided page) none = refl

read_again : (r : Record) → head_of r ≡ None → decoded (record_bytes r) ≡ Some r → records_of (record_bytes r ∷ []) ≡ r ∷ []
read_again r none spelled = ap (λ (o : Option Record). maybe o [] without_head ++ []) spelled ∙ alone r none

shard_headless : (r : Record) → IsTrue (is_shard_record r) → head_of r ≡ None
shard_headless (Head h) own = absurd cc
shard_headless (Prepared t part) own = refl
shard_headless (Finished page) own = refl
shard_headless (Promised t b) own = refl
shard_headless (Accepted t b o) own = refl
shard_headless (Decided page) own = refl

coord_headless : (r : Record) → IsTrue (is_coord_record r) → head_of r ≡ None
coord_headless (Head h) own = absurd cc
coord_headless (Prepared t part) own = refl
coord_headless (Finished page) own = refl
coord_headless (Promised t b) own = refl
coord_headless (Accepted t b o) own = refl
coord_headless (Decided page) own = refl

-- what holds of the record of an act holds where it has one
each : (P Q R : Record → Type 0) (o : Option Record) → ((r : Record) → o ≡ Some r → P r → Q r → R r) → IfSome o P → IfSome o Q → IfSome o R
each P Q R None law p q = tt
each P Q R (Some r) law p q = law r refl p q

module _ (c : Layout) (again : (r : Record) → HasRecord r → decoded (record_bytes r) ≡ Some r) (gives : List (List ℕ) → NodeDurable → Type 0) (up : Bool) (log : List Record) (cause : NodeCause) where
  module _ (d sh : ℕ) (s : ShardDurable) (v : ShardVolatile) where
    abbrev pub shard_logs : Option Record
    shard_logs = (shard_act c d sh s v cause).logs

    pub shard_entry : ((r : Record) → shard_logs ≡ Some r → (blobs : List (List ℕ)) → gives blobs (OfShard s) → gives (blobs ++ record_bytes r ∷ []) (OfShard (applied shard_applied s shard_logs)))
        → IfSome shard_logs HasRecord → AreLogged gives (at up log (OfShard s) (OfShardNow v)) (of_shard (shard_does s (shard_act c d sh s v cause)))
    shard_entry more has =
        each HasRecord (λ r. IsTrue (is_shard_record r)) (IsLogged gives (at up log (OfShard s) (OfShardNow v)) (of_shard (shard_does s (shard_act c d sh s v cause)))) shard_logs
        (λ r some spelled own. record { again = read_again r (shard_headless r own) (again r spelled); kind = refl; left = refl; gives_more = more r some }) has
        (shard_records c d sh s v cause).own

  module _ (d : ℕ) (s : CoordDurable) (v : CoordVolatile) where
    abbrev pub coord_logs : Option Record
    coord_logs = (coord_act c d s v cause).logs

    pub coord_entry : ((r : Record) → coord_logs ≡ Some r → HasRecord r → IsTrue (is_coord_record r) → (blobs : List (List ℕ)) → gives blobs (OfCoord s)
        → gives (blobs ++ record_bytes r ∷ []) (OfCoord (applied coord_applied s coord_logs)))
        → IfSome coord_logs HasRecord → AreLogged gives (at up log (OfCoord s) (OfCoordNow v)) (of_coord (coord_does s (coord_act c d s v cause)))
    coord_entry more has =
        each HasRecord (λ r. IsTrue (is_coord_record r) × ((coord_act c d s v cause).spent ≡ false)) (IsLogged gives (at up log (OfCoord s) (OfCoordNow v)) (of_coord (coord_does s (coord_act c d s v cause)))) coord_logs
        (λ r some spelled own. record { again = read_again r (coord_headless r own.0) (again r spelled); kind = refl; left = own.1; gives_more = more r some spelled own.0 }) has
        (coord_records c d s v cause).own

module _ (c : Layout) (again : (r : Record) → HasRecord r → decoded (record_bytes r) ≡ Some r) (up : Bool) (log : List Record) where
  pub shard_logged : (node : NodeId)
      → ((blobs : List (List ℕ)) (d sh : ℕ) (s : ShardDurable) (v : ShardVolatile) (cause : NodeCause) → GivesShardBack node c blobs s → IfSome (shard_act c d sh s v cause).logs HasRecord
      → GivesShardBack node c (with_record blobs (shard_act c d sh s v cause).logs) (applied shard_applied s (shard_act c d sh s v cause).logs))
      → (s : NodeDurable) (v : NodeVolatile) (cause : NodeCause) → IfSome (node_act c node s v cause).logs HasRecord → AreLogged (shard_back node c) (at up log s v) (node_act c node s v cause)
  shard_logged (ShardServer d sh) keeps (OfShard s) (OfShardNow v) cause has =
      let logs = (shard_act c d sh s v cause).logs in
      shard_entry c again (shard_back (ShardServer d sh) c) up log cause d sh s v
      (λ r some blobs back. subst (λ (o : Option Record). GivesShardBack (ShardServer d sh) c (with_record blobs o) (applied shard_applied s logs)) some (keeps blobs d sh s v cause back has)) has
  shard_logged (ShardServer d sh) keeps (OfShard s) (OfCoordNow v) cause has = tt
  shard_logged (ShardServer d sh) keeps (OfCoord s) v cause has = tt
  shard_logged (Coord d) keeps (OfCoord s) (OfCoordNow v) cause has = coord_entry c again (shard_back (Coord d) c) up log cause d s v (λ r some spelled own blobs back. absurd back) has
  shard_logged (Coord d) keeps (OfCoord s) (OfShardNow v) cause has = tt
  shard_logged (Coord d) keeps (OfShard s) v cause has = tt
