-- What the logs of nodes that begin say, blob by blob.
use Rattle.std.specs.Prelude.{ℕ, suc, List, [], ◌∷◌}
use Rattle.std.specs.List.{AllByRecursion}
use Rattle.rc_ids.specs.Tables.{maybe}
use Rattle.rc_ids.specs.Cluster.{Layout}
use Rattle.rc_body.specs.declared.entry.Entry.{Entry}
use Rattle.rc_record.specs.Reading.{decoded}
use Rattle.rc_record.specs.Spelling.{HasRecord}
use Rattle.rc_record.specs.declared.record.Record.{Record}
use Rattle.rc_protocol.specs.Nodes.{CoordNode, with_log as with_names}
use Rattle.rc_runs.specs.Starts.{with_choices}
use Rattle.rc_runs.specs.Stored.{without_head, records_of}
use Rattle.rc_order.specs.Orders.{Votes}
use Rattle.rc_order.specs.Logs.{with_log}

-- the record that the bytes spell, unless that is a head
abbrev pub records_in : List ℕ → List Record
records_in bytes = maybe (decoded bytes) [] without_head

-- each record of each log has a spelling
abbrev pub HaveRecords : List (List (List ℕ)) → Type 0
HaveRecords logs = AllByRecursion (λ (log : List (List ℕ)). AllByRecursion HasRecord (records_of log)) logs

-- the votes of the logs, the first that of d
abbrev pub with_blobs : Votes → ℕ → List (List (List ℕ)) → Votes
with_blobs votes d [] = votes
with_blobs votes d (log ∷ logs) = with_blobs (with_log votes d (records_of log)) (suc d) logs

-- what the votes of these nodes choose, in the order of the logs
abbrev pub choices_of : Layout → List CoordNode → List (ℕ × List Entry) → List (List (List ℕ)) → List (ℕ × List Entry)
choices_of c coords chosen [] = chosen
choices_of c coords chosen (log ∷ logs) = choices_of c coords (with_choices c coords chosen (records_of log)) logs

-- the transactions that the logs name, joined to those named before
abbrev pub names_of : List ℕ → List (List (List ℕ)) → List ℕ
names_of named [] = named
names_of named (log ∷ logs) = names_of (with_names named (records_of log)) logs
