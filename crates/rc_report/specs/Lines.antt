-- How each line is written.
use Rattle.std.specs.Prelude.{ℕ, List, [], ◌∷◌, ◌++◌, Option, None, Some, codes, if◌then◌else◌}
use Rattle.std.specs.List.{concat, flat_map}
use Rattle.std.specs.Fmt.{decimal}
use Rattle.rc_ids.specs.declared.names.NodeId.{NodeId}
use Rattle.rc_report.specs.Names.{space, tx_text, dc_text, node_text, ended_text, is_gone}
use Rattle.rc_report.specs.Reasons.{reason_text}
use Rattle.rc_report.specs.Messages.{pending_text}
use Rattle.rc_report.specs.Faults.{at_line, wrong_text, limit_text, limit_at, log_fault_text}
use Rattle.rc_report.specs.declared.line.Hold.{Hold}
use Rattle.rc_report.specs.declared.line.Hold.TheVariants.{Free, Held}
use Rattle.rc_report.specs.declared.line.Rest.{Rest}
use Rattle.rc_report.specs.declared.line.Rest.TheVariants.{Gone, Unknown, Open}
use Rattle.rc_report.specs.declared.line.Count.{Count}
use Rattle.rc_report.specs.declared.line.Count.TheVariants.{Transactions, Committed, Aborted, Deliveries}
use Rattle.rc_report.specs.declared.line.Line.{Line}
use Rattle.rc_report.specs.declared.line.Line.TheVariants.{Read, Own, Refused, Learned, Settled, Order, Stopped, Up, Pending, Row, Down, Outside, Named, Limit, ScriptBytes, ScriptLines, Full, Log, Workload, Left, Counted}

abbrev pub line_end : List ℕ
line_end = 10 ∷ []

-- a read gave this version and value
abbrev pub read_text : ℕ → List ℕ → ℕ → Option (List ℕ) → List ℕ
read_text t k v None = concat (tx_text t ∷ codes " read " ∷ k ∷ space ∷ decimal v ∷ codes " -" ∷ [])
read_text t k v (Some value) =
    if is_gone value
    then concat (tx_text t ∷ codes " gone " ∷ k ∷ space ∷ decimal v ∷ [])
    else concat (tx_text t ∷ codes " read " ∷ k ∷ space ∷ decimal v ∷ space ∷ value ∷ [])

-- the transaction writes this value itself
abbrev pub own_text : ℕ → List ℕ → List ℕ → List ℕ
own_text t k value =
    if is_gone value
    then concat (tx_text t ∷ codes " deletes " ∷ k ∷ [])
    else concat (tx_text t ∷ codes " own " ∷ k ∷ space ∷ value ∷ [])

abbrev pub order_text : List ℕ → List ℕ
order_text txs = codes "order" ++ flat_map (λ t. space ++ tx_text t) txs

abbrev pub hold_text : Hold → List ℕ
hold_text Free = codes "free"
hold_text Held = codes "held"

-- a key at a shard
abbrev pub row_text : NodeId → List ℕ → ℕ → Hold → Option (List ℕ) → List ℕ
row_text node k v hold None = concat (node_text node ∷ space ∷ k ∷ space ∷ decimal v ∷ space ∷ hold_text hold ∷ codes " -" ∷ [])
row_text node k v hold (Some value) =
    if is_gone value
    then concat (node_text node ∷ space ∷ k ∷ space ∷ decimal v ∷ codes " gone " ∷ hold_text hold ∷ [])
    else concat (node_text node ∷ space ∷ k ∷ space ∷ decimal v ∷ space ∷ hold_text hold ∷ space ∷ value ∷ [])

-- where a transaction stands that has no outcome
abbrev pub rest_text : Rest → List ℕ
rest_text Gone = codes "gone"
rest_text Unknown = codes "unknown"
rest_text Open = codes "open"

abbrev pub count_text : Count → List ℕ
count_text Transactions = codes "transactions"
count_text Committed = codes "committed"
count_text Aborted = codes "aborted"
count_text Deliveries = codes "deliveries"

-- a line without its end
abbrev pub body_text : Line → List ℕ
body_text (Read t k v value) = read_text t k v value
body_text (Own t k value) = own_text t k value
body_text (Refused t d reason) = concat (tx_text t ∷ codes " refused " ∷ dc_text d ∷ space ∷ reason_text reason ∷ [])
body_text (Learned t outcome) = concat (tx_text t ∷ space ∷ ended_text outcome ∷ [])
body_text (Settled count) = concat (codes "settled " ∷ decimal count ∷ [])
body_text (Order txs) = order_text txs
body_text (Stopped node) = concat (node_text node ∷ codes " stopped" ∷ [])
body_text (Up node) = concat (node_text node ∷ codes " up" ∷ [])
body_text (Pending n envelope) = pending_text n envelope
body_text (Row node k v hold value) = row_text node k v hold value
body_text (Down node) = concat (node_text node ∷ codes " down" ∷ [])
body_text (Outside n) = concat (at_line n ∷ codes "outside the grammar" ∷ [])
body_text (Named n wrong) = concat (at_line n ∷ wrong_text wrong ∷ [])
body_text (Limit n which) = limit_at n which
body_text ScriptBytes = codes "limit of script bytes"
body_text ScriptLines = codes "limit of lines"
body_text (Full which) = limit_text which
body_text (Log node fault) = log_fault_text node fault
body_text Workload = codes "workload refused"
body_text (Left t rest) = concat (tx_text t ∷ space ∷ rest_text rest ∷ [])
body_text (Counted count n) = concat (count_text count ∷ space ∷ decimal n ∷ [])

abbrev pub line_text : Line → List ℕ
line_text line = body_text line ++ line_end
