-- How pending messages are written.
use Rattle.std.specs.Prelude.{List, ℕ, [], ◌∷◌, Option, None, Some, length, codes}
use Rattle.std.specs.List.{concat}
use Rattle.std.specs.Fmt.{decimal}
use Rattle.rc_body.specs.declared.reason.Reason.{Reason}
use Rattle.rc_body.specs.declared.decision.Decision.{Decision}
use Rattle.rc_body.specs.declared.decision.Decision.TheVariants.{Commit, Abort}
use Rattle.rc_msg.specs.declared.msg.Msg.{Msg}
use Rattle.rc_msg.specs.declared.msg.Msg.TheVariants.{ReadAsk, ReadCancel, Granted, Propose, Prepare, Prepared, Voted, Refused, Ask, Promise, Decided, Finish, Abandon, CatchAsk, CatchPage}
use Rattle.rc_msg.specs.declared.msg.Envelope.{Envelope}
use Rattle.rc_report.specs.Names.{space, tx_text, party_text}
use Rattle.rc_report.specs.Reasons.{reason_text}

abbrev pub decision_text : Decision → List ℕ
decision_text (Commit body) = codes "commit"
decision_text Abort = codes "abort"

-- a shard's answer to a prepare
abbrev pub answer_text : Option Reason → List ℕ
answer_text None = codes "yes"
answer_text (Some reason) = concat (codes "no " ∷ reason_text reason ∷ [])

-- what a datacentre accepted last
abbrev pub report_text : Option (ℕ × Decision) → List ℕ
report_text None = codes "none"
report_text (Some report) = concat (decision_text report.1 ∷ space ∷ decimal report.0 ∷ [])

-- the kind and what is shown of the fields
abbrev pub msg_text : Msg → List ℕ
msg_text (ReadAsk t k) = concat (codes "ReadAsk " ∷ tx_text t ∷ space ∷ k ∷ [])
msg_text (ReadCancel t k) = concat (codes "ReadCancel " ∷ tx_text t ∷ space ∷ k ∷ [])
msg_text (Granted t k d v value) = concat (codes "Granted " ∷ tx_text t ∷ space ∷ k ∷ space ∷ decimal v ∷ [])
msg_text (Propose t b decision) = concat (codes "Propose " ∷ tx_text t ∷ space ∷ decimal b ∷ space ∷ decision_text decision ∷ [])
msg_text (Prepare t body) = concat (codes "Prepare " ∷ tx_text t ∷ [])
msg_text (Prepared t s answer) = concat (codes "Prepared " ∷ tx_text t ∷ space ∷ answer_text answer ∷ [])
msg_text (Voted t b d decision) = concat (codes "Voted " ∷ tx_text t ∷ space ∷ decimal b ∷ space ∷ decision_text decision ∷ [])
msg_text (Refused t b d reason) = concat (codes "Refused " ∷ tx_text t ∷ space ∷ decimal b ∷ space ∷ reason_text reason ∷ [])
msg_text (Ask t b) = concat (codes "Ask " ∷ tx_text t ∷ space ∷ decimal b ∷ [])
msg_text (Promise t b d report) = concat (codes "Promise " ∷ tx_text t ∷ space ∷ decimal b ∷ space ∷ report_text report ∷ [])
msg_text (Decided t decision) = concat (codes "Decided " ∷ tx_text t ∷ space ∷ decision_text decision ∷ [])
msg_text (Finish t decision) = concat (codes "Finish " ∷ tx_text t ∷ space ∷ decision_text decision ∷ [])
msg_text (Abandon t) = concat (codes "Abandon " ∷ tx_text t ∷ [])
msg_text (CatchAsk place) = concat (codes "CatchAsk " ∷ decimal place ∷ [])
msg_text (CatchPage d place page) = concat (codes "CatchPage " ∷ decimal place ∷ space ∷ decimal (length page) ∷ [])

-- a message and its number
abbrev pub pending_text : ℕ → Envelope → List ℕ
pending_text n e = concat (decimal n ∷ space ∷ party_text e.from ∷ space ∷ party_text e.to ∷ space ∷ msg_text e.msg ∷ [])
