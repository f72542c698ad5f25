-- What a shard server shows: a line for each key that was written or is held exclusively.
use Rattle.std.specs.Prelude.{ℕ, List, [], ◌∷◌, map, if◌then◌else◌, is_some}
use Rattle.rc_ids.specs.Tables.{Table, added}
use Rattle.rc_ids.specs.Texts.{key_cmp}
use Rattle.rc_ids.specs.declared.names.NodeId.{NodeId}
use Rattle.rc_body.specs.declared.entry.Entry.{Entry}
use Rattle.rc_report.specs.declared.line.Hold.{Hold}
use Rattle.rc_report.specs.declared.line.Hold.TheVariants.{Free, Held}
use Rattle.rc_report.specs.declared.line.Line.{Line}
use Rattle.rc_report.specs.declared.line.Line.TheVariants.{Row, Down as DownLine}
use Rattle.rc_record.specs.ShardState.{version_at, value_at}
use Rattle.rc_protocol.specs.Shard.{holder}
use Rattle.rc_protocol.specs.Nodes.{ShardNode}

abbrev pub with_written : List (List ℕ) → List Entry → List (List ℕ)
with_written keys [] = keys
with_written keys (e ∷ es) = with_written (if is_some e.write then added key_cmp keys e.key else keys) es

abbrev pub with_held : List (List ℕ) → Table ℕ (List Entry) → List (List ℕ)
with_held keys [] = keys
with_held keys (p ∷ ps) = with_held (with_written keys p.1) ps

-- the keys that were written or are held exclusively, in key order
abbrev pub shown_keys : ShardNode → List (List ℕ)
shown_keys x = with_held (map (λ (row : List ℕ × (ℕ × List ℕ)). row.0) x.durable.rows) x.durable.parts

abbrev pub hold_of : ShardNode → List ℕ → Hold
hold_of x k = if is_some (holder x.durable.parts k) then Held else Free

abbrev pub row_lines : NodeId → ShardNode → List Line
row_lines node x =
    if x.up
    then map (λ (k : List ℕ). Row node k (version_at x.durable.rows k) (hold_of x k) (value_at x.durable.rows k)) (shown_keys x)
    else DownLine node ∷ []
