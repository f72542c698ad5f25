-- The records that the log of a node of each kind holds, and that such a log names what its replay tells.
use Rattle.std.specs.Prelude.{◌≡◌, List, []}
use Rattle.rc_ids.specs.Tables.{In}
use Rattle.rc_record.specs.CoordState.{new_durable as new_coord_durable}
use Rattle.rc_record.specs.ShardState.{new_durable as new_shard_durable}
use Rattle.rc_record.specs.declared.record.Record.{Record}
use Rattle.rc_record.specs.declared.record.Record.TheVariants.{Head, Prepared, Finished, Promised, Accepted, Decided}
use Rattle.rc_protocol.specs.Nodes.{coord_replayed, shard_replayed, with_log}
use Rattle.rc_claims.specs.Lives.{SameMembers}

abbrev pub IsOfCoord : Record → Type 0
IsOfCoord (Promised t b) = Unit {0}
IsOfCoord (Accepted t b o) = Unit {0}
IsOfCoord (Decided page) = Unit {0}
IsOfCoord (Head h) = Unit {0}
IsOfCoord _ = ⊥

abbrev pub IsOfShard : Record → Type 0
IsOfShard (Prepared t part) = Unit {0}
IsOfShard (Finished page) = Unit {0}
IsOfShard (Head h) = Unit {0}
IsOfShard _ = ⊥

abbrev pub AreAll : (Record → Type 0) → List Record → Type 0
AreAll IsOwn rs = (r : Record) → In r rs → IsOwn r

-- logs of one replay name the same transactions
abbrev pub CoordNamesFollow : List Record → List Record → Type 0
CoordNamesFollow rs qs = AreAll IsOfCoord rs → AreAll IsOfCoord qs → coord_replayed new_coord_durable rs ≡ coord_replayed new_coord_durable qs → SameMembers (with_log [] rs) (with_log [] qs)

abbrev pub ShardNamesFollow : List Record → List Record → Type 0
ShardNamesFollow rs qs = AreAll IsOfShard rs → AreAll IsOfShard qs → shard_replayed new_shard_durable rs ≡ shard_replayed new_shard_durable qs → SameMembers (with_log [] rs) (with_log [] qs)
