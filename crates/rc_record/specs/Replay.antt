-- Replay: what the records of a log give back, or the first that is refused.
use Rattle.std.specs.Prelude.{ℕ, suc, Bool, not, ◌&&◌, ◌||◌, ◌==◌, nat_lt, List, [], ◌∷◌, Option, None, Some, Result, Ok, Err, if◌then◌else◌}
use Rattle.rc_ids.specs.declared.names.NodeId.{NodeId}
use Rattle.rc_ids.specs.Cluster.{Layout}
use Rattle.rc_ids.specs.Tables.{maybe}
use Rattle.rc_record.specs.Heads.{LogHead, is_of}
use Rattle.rc_record.specs.Kinds.{head_of, is_shard_record, is_coord_record, has_gone}
use Rattle.rc_record.specs.Reading.{decoded}
use Rattle.rc_record.specs.ShardState.{ShardDurable, new_durable as new_shard}
use Rattle.rc_record.specs.InOrder.{shard_replayed_by}
use Rattle.rc_record.specs.CoordState.{CoordDurable, new_durable as new_coord, coord_applied}
use Rattle.rc_record.specs.declared.fault.ReplayFault.{ReplayFault}
use Rattle.rc_record.specs.declared.fault.ReplayFault.TheVariants.{BadRecord, OtherWorld}
use Rattle.rc_record.specs.declared.record.Record.{Record}

-- REPLAY: the format of the newest head, 0 before the first record, and what the records gave back so far
-- the first head is of this node and world; a later one also has a higher format
abbrev pub next_format : NodeId → Layout → ℕ → ℕ → LogHead → Result ℕ ReplayFault
next_format node c place format h =
    if format == 0 then (if is_of node c h then Ok h.format else Err OtherWorld)
    else (if nat_lt format h.format && is_of node c h then Ok h.format else Err (BadRecord place))

-- a record that is no head stands behind one, is of the node's kind, and has no gone value in format 1
abbrev pub is_refused : Bool → ℕ → Record → Bool
is_refused is_kind format r = (format == 0) || not is_kind || ((format == 1) && has_gone r)

-- the format behind a record at this place
abbrev pub format_behind : NodeId → Layout → (Record → Bool) → ℕ → ℕ → Record → Result ℕ ReplayFault
format_behind node c is_kind place format r =
    maybe (head_of r) (if is_refused (is_kind r) format r then Err (BadRecord place) else Ok format) (next_format node c place format)

abbrev pub on_ok : {A B : Type 0} → Result A ReplayFault → (A → Result B ReplayFault) → Result B ReplayFault
on_ok (Ok a) next = next a
on_ok (Err fault) next = Err fault

-- one more record, at this place; bytes that are no record are refused
abbrev pub shard_step : NodeId → Layout → ℕ → ℕ × ShardDurable → List ℕ → Result (ℕ × ShardDurable) ReplayFault
shard_step node c place s bytes =
    maybe (decoded bytes) (Err (BadRecord place))
    (λ r. on_ok (format_behind node c is_shard_record place s.0 r) (λ format. Ok (format, shard_replayed_by s.1 r)))

abbrev pub coord_step : NodeId → Layout → ℕ → ℕ × CoordDurable → List ℕ → Result (ℕ × CoordDurable) ReplayFault
coord_step node c place s bytes =
    maybe (decoded bytes) (Err (BadRecord place))
    (λ r. on_ok (format_behind node c is_coord_record place s.0 r) (λ format. Ok (format, coord_applied s.1 r)))

-- the records from this place on
abbrev pub shard_from : NodeId → Layout → ℕ → ℕ × ShardDurable → List (List ℕ) → Result ShardDurable ReplayFault
shard_from node c place s [] = Ok s.1
shard_from node c place s (bytes ∷ log) = on_ok (shard_step node c place s bytes) (λ t. shard_from node c (suc place) t log)

abbrev pub coord_from : NodeId → Layout → ℕ → ℕ × CoordDurable → List (List ℕ) → Result CoordDurable ReplayFault
coord_from node c place s [] = Ok s.1
coord_from node c place s (bytes ∷ log) = on_ok (coord_step node c place s bytes) (λ t. coord_from node c (suc place) t log)

-- a log without a record is a new one
abbrev pub shard_replay : NodeId → Layout → List (List ℕ) → Result ShardDurable ReplayFault
shard_replay node c log = shard_from node c 0 (0, new_shard) log

abbrev pub coord_replay : NodeId → Layout → List (List ℕ) → Result CoordDurable ReplayFault
coord_replay node c log = coord_from node c 0 (0, new_coord) log

-- THE NEWEST HEAD
abbrev pub head_in : List ℕ → Option LogHead
head_in bytes = maybe (decoded bytes) None head_of

-- the last head of a log
abbrev pub newest_head : List (List ℕ) → Option LogHead
newest_head [] = None
newest_head (bytes ∷ log) = maybe (newest_head log) (head_in bytes) Some
