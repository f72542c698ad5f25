-- How faults are written.
use Rattle.std.specs.Prelude.{List, ℕ, [], ◌∷◌, codes}
use Rattle.std.specs.List.{concat}
use Rattle.std.specs.Fmt.{decimal}
use Rattle.rc_ids.specs.declared.names.NodeId.{NodeId}
use Rattle.rc_report.specs.Names.{tx_text, node_text}
use Rattle.rc_report.specs.declared.fault.Wrong.{Wrong}
use Rattle.rc_report.specs.declared.fault.Wrong.TheVariants.{NotBegun, BegunTwice, Vanished, NotOpen, TooManyKeys, Down, Up, NotSent, NotPending}
use Rattle.rc_report.specs.declared.fault.Which.{Which}
use Rattle.rc_report.specs.declared.fault.Which.TheVariants.{Transactions, Events, Messages, MessageBytes, TextBytes, Version, Ballots, Log}
use Rattle.rc_report.specs.declared.fault.LogFault.{LogFault}
use Rattle.rc_report.specs.declared.fault.LogFault.TheVariants.{Damaged, BadRecord, OtherWorld}

-- the beginning of a fault in a line of the script
abbrev pub at_line : ℕ → List ℕ
at_line n = concat (codes "line " ∷ decimal n ∷ codes ": " ∷ [])

-- what a line names wrongly
abbrev pub wrong_text : Wrong → List ℕ
wrong_text (NotBegun t) = concat (tx_text t ∷ codes " is not begun" ∷ [])
wrong_text (BegunTwice t) = concat (tx_text t ∷ codes " is begun twice" ∷ [])
wrong_text (Vanished t) = concat (tx_text t ∷ codes " has vanished" ∷ [])
wrong_text (NotOpen t) = concat (tx_text t ∷ codes " is not open" ∷ [])
wrong_text (TooManyKeys t) = concat (tx_text t ∷ codes " has 32 keys" ∷ [])
wrong_text (Down node) = concat (node_text node ∷ codes " is down" ∷ [])
wrong_text (Up node) = concat (node_text node ∷ codes " is up" ∷ [])
wrong_text (NotSent n) = concat (codes "message " ∷ decimal n ∷ codes " was not sent" ∷ [])
wrong_text (NotPending n) = concat (codes "message " ∷ decimal n ∷ codes " is not pending" ∷ [])

-- the quantity that would pass its limit
abbrev pub limit_text : Which → List ℕ
limit_text Transactions = codes "limit of transactions"
limit_text Events = codes "limit of events"
limit_text Messages = codes "limit of messages"
limit_text MessageBytes = codes "limit of message bytes"
limit_text TextBytes = codes "limit of text bytes"
limit_text Version = codes "limit of version"
limit_text Ballots = codes "limit of ballots"
limit_text (Log node) = concat (node_text node ∷ codes ": limit of log" ∷ [])

-- in a line of the script; a log is named by its node
abbrev pub limit_at : ℕ → Which → List ℕ
limit_at n (Log node) = limit_text (Log node)
limit_at n which = concat (at_line n ∷ limit_text which ∷ [])

-- what is wrong with a node's log
abbrev pub log_fault_text : NodeId → LogFault → List ℕ
log_fault_text node (Damaged place) = concat (node_text node ∷ codes ": log damaged at " ∷ decimal place ∷ [])
log_fault_text node (BadRecord i) = concat (node_text node ∷ codes ": record " ∷ decimal i ∷ codes " refused" ∷ [])
log_fault_text node OtherWorld = concat (node_text node ∷ codes ": another world" ∷ [])
