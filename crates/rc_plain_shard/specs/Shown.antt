-- What is shown of a durable state.
use Rattle.std.specs.Prelude.{ℕ, List, map, is_some, if◌then◌else◌}
use Rattle.rc_ids.specs.declared.names.NodeId.{NodeId}
use Rattle.rc_record.specs.declared.shard.ShardDurable.{ShardDurable}
use Rattle.rc_record.specs.ShardState.{version_at, value_at}
use Rattle.rc_report.specs.declared.line.Hold.TheVariants.{Free, Held}
use Rattle.rc_report.specs.declared.line.Line.{Line}
use Rattle.rc_report.specs.declared.line.Line.TheVariants.{Row}
use Rattle.rc_protocol.specs.Shard.{holder}
use Rattle.rc_protocol.specs.Shown.{with_held}

-- the keys that were written or are held exclusively, in key order
abbrev pub keys_shown : ShardDurable → List (List ℕ)
keys_shown s = with_held (map (λ (row : List ℕ × (ℕ × List ℕ)). row.0) s.rows) s.parts

-- the line of a key
abbrev pub row_of : NodeId → ShardDurable → List ℕ → Line
row_of node s k = Row node k (version_at s.rows k) (if is_some (holder s.parts k) then Held else Free) (value_at s.rows k)
