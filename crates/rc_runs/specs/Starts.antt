-- What logs say with which a run begins: the transactions that they name, and those whose commit their votes choose, with their bodies.
use Rattle.std.specs.Prelude.{ℕ, List, [], ◌∷◌, Some}
use Rattle.rc_ids.specs.Cluster.{Layout}
use Rattle.rc_body.specs.declared.entry.Entry.{Entry}
use Rattle.rc_record.specs.declared.record.Record.{Record}
use Rattle.rc_protocol.specs.Nodes.{CoordNode, ShardNode, with_log}
use Rattle.rc_runs.specs.Votes.{ordered}
use Rattle.rc_runs.specs.World.{Start}

-- the names in the logs of coordinators, and of shard servers
abbrev pub named_by_coords : List ℕ → List CoordNode → List ℕ
named_by_coords named [] = named
named_by_coords named (x ∷ xs) = named_by_coords (with_log named x.log) xs

abbrev pub named_by_shards : List ℕ → List ShardNode → List ℕ
named_by_shards named [] = named
named_by_shards named (x ∷ xs) = named_by_shards (with_log named x.log) xs

-- the commits that the votes of all logs choose, each once, in the order in which the logs are read
abbrev pub with_choices : Layout → List CoordNode → List (ℕ × List Entry) → List Record → List (ℕ × List Entry)
with_choices c coords chosen [] = chosen
with_choices c coords chosen (r ∷ rs) = with_choices c coords (ordered c coords [] chosen (Some r)) rs

abbrev pub all_choices : Layout → List CoordNode → List (ℕ × List Entry) → List CoordNode → List (ℕ × List Entry)
all_choices c coords chosen [] = chosen
all_choices c coords chosen (x ∷ xs) = all_choices c coords (with_choices c coords chosen x.log) xs

-- of nodes that start from their logs
abbrev pub start_of : Layout → List CoordNode → List ShardNode → Start
start_of c coords shards = record { named = named_by_shards (named_by_coords [] coords) shards; committed = all_choices c coords [] coords }
