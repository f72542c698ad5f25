-- What a world shows of its messages and of its shard servers.
use Rattle.std.specs.Prelude.{ℕ, List, [], ◌∷◌, map, None, is_some, if◌then◌else◌, slice_get}
use Rattle.std.specs.List.Sorted.{IsStrictlySortedBy}
use Rattle.rc_ids.specs.Tables.{Table, maybe}
use Rattle.rc_ids.specs.Texts.{key_cmp}
use Rattle.rc_ids.specs.Cluster.{Layout}
use Rattle.rc_ids.specs.declared.names.NodeId.{NodeId}
use Rattle.rc_ids.specs.declared.names.NodeId.TheVariants.{Shard as ShardServer}
use Rattle.rc_body.specs.declared.entry.Entry.{Entry}
use Rattle.rc_msg.specs.declared.msg.Envelope.{Envelope}
use Rattle.rc_record.specs.Rows.{version_at, value_at}
use Rattle.rc_report.specs.declared.line.Hold.TheVariants.{Free, Held}
use Rattle.rc_report.specs.declared.line.Line.{Line}
use Rattle.rc_report.specs.declared.line.Line.TheVariants.{Row, Pending as PendingLine}
use Rattle.rc_protocol.specs.Nodes.{ShardNode, shard_index}
use Rattle.rc_protocol.specs.Shard.{holder}
use Rattle.rc_protocol.specs.Shown.{with_held, row_lines}
use Rattle.rc_runs.specs.World.{message, is_shard_of}

-- the line of a pending message
abbrev pub pending_line : List Envelope → ℕ → List Line
pending_line sent n = maybe (message sent n) [] (λ e. PendingLine n e ∷ [])

-- the keys of rows
abbrev pub keys_in : Table (List ℕ) (ℕ × List ℕ) → List (List ℕ)
keys_in rows = map (λ (row : List ℕ × (ℕ × List ℕ)). row.0) rows

-- each key is below those after it
abbrev pub RowsRise : Table (List ℕ) (ℕ × List ℕ) → Type 0
RowsRise rows = IsStrictlySortedBy key_cmp (keys_in rows)

-- the keys that were written or are held exclusively, in key order
abbrev pub keys_shown : Table (List ℕ) (ℕ × List ℕ) → Table ℕ (List Entry) → List (List ℕ)
keys_shown rows parts = with_held (keys_in rows) parts

-- the line of a key
abbrev pub row_of : NodeId → Table (List ℕ) (ℕ × List ℕ) → Table ℕ (List Entry) → List ℕ → Line
row_of node rows parts k = Row node k (version_at rows k) (if is_some (holder parts k) then Held else Free) (value_at rows k)

-- what shows a shard server of d, of those in their places
abbrev pub shown_at : Layout → List ShardNode → ℕ → ℕ → List Line
shown_at c shards d s = maybe (if is_shard_of c d s then slice_get shards (shard_index c d s) else None) [] (row_lines (ShardServer d s))
