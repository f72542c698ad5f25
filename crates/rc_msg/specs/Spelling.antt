-- The bytes of messages, and which messages have a spelling.
use Rattle.std.specs.Prelude.{◌≡◌, ℕ, ◌≤◌, ◌==◌, List, ◌++◌, Option, Some, None, IfSome, is_some, not}
use Rattle.rc_ids.specs.Texts.{IsKey}
use Rattle.rc_fields.specs.Ranges.{IsDcNumber, IsShardNumber, IsTxNumber, IsPlace, IsBallotNumber, IsVersionNumber, IsPartyName}
use Rattle.rc_fields.specs.Spelling.{u8_bytes, u32_bytes, u64_bytes, key_bytes, party_bytes}
use Rattle.rc_body.specs.Spelling.{held_bytes, body_bytes, decision_bytes, reason_bytes, report_bytes, page_bytes, HasHeld, HasBody, HasDecision, HasReason, HasReport, HasPage}
use Rattle.rc_body.specs.declared.reason.Reason.{Reason}
use Rattle.rc_body.specs.declared.reason.Reason.TheVariants.{Promised as PromisedHigher}
use Rattle.rc_msg.specs.declared.msg.Envelope.{Envelope}
use Rattle.rc_msg.specs.declared.msg.Msg.{Msg}
use Rattle.rc_msg.specs.declared.msg.Msg.TheVariants.{ReadAsk, ReadCancel, Granted, Propose, Prepare, Prepared, Voted, Refused, Ask, Promise, Decided, Finish, Abandon, CatchAsk, CatchPage}

-- 0 for yes; 1, and the reason of a no
abbrev pub answer_bytes : Option Reason → List ℕ
answer_bytes None = u8_bytes 0
answer_bytes (Some reason) = u8_bytes 1 ++ reason_bytes reason

-- the kind, and the fields in their order
abbrev pub msg_bytes : Msg → List ℕ
msg_bytes (ReadAsk t k) = u8_bytes 1 ++ u32_bytes t ++ key_bytes k
msg_bytes (ReadCancel t k) = u8_bytes 2 ++ u32_bytes t ++ key_bytes k
msg_bytes (Granted t k d version held) = u8_bytes 3 ++ u32_bytes t ++ key_bytes k ++ u8_bytes d ++ u64_bytes version ++ held_bytes held
msg_bytes (Propose t b o) = u8_bytes 4 ++ u32_bytes t ++ u32_bytes b ++ decision_bytes o
msg_bytes (Prepare t part) = u8_bytes 5 ++ u32_bytes t ++ body_bytes part
msg_bytes (Prepared t s answer) = u8_bytes 6 ++ u32_bytes t ++ u8_bytes s ++ answer_bytes answer
msg_bytes (Voted t b d o) = u8_bytes 7 ++ u32_bytes t ++ u32_bytes b ++ u8_bytes d ++ decision_bytes o
msg_bytes (Refused t b d reason) = u8_bytes 8 ++ u32_bytes t ++ u32_bytes b ++ u8_bytes d ++ reason_bytes reason
msg_bytes (Ask t b) = u8_bytes 9 ++ u32_bytes t ++ u32_bytes b
msg_bytes (Promise t b d report) = u8_bytes 10 ++ u32_bytes t ++ u32_bytes b ++ u8_bytes d ++ report_bytes report
msg_bytes (Decided t o) = u8_bytes 11 ++ u32_bytes t ++ decision_bytes o
msg_bytes (Finish t o) = u8_bytes 12 ++ u32_bytes t ++ decision_bytes o
msg_bytes (Abandon t) = u8_bytes 13 ++ u32_bytes t
msg_bytes (CatchAsk place) = u8_bytes 14 ++ u32_bytes place
msg_bytes (CatchPage d place page) = u8_bytes 15 ++ u8_bytes d ++ u32_bytes place ++ page_bytes page

-- the sender, the receiver, and the message
abbrev pub envelope_bytes : Envelope → List ℕ
envelope_bytes e = party_bytes e.from ++ party_bytes e.to ++ msg_bytes e.msg

-- WHAT HAS A SPELLING
-- a value is there exactly at the versions from 1 on
abbrev pub IsRow : ℕ → Option (List ℕ) → Type 0
IsRow version held = IsVersionNumber version × HasHeld held × (is_some held ≡ not (version == 0))

-- the ballot of a take-over
abbrev pub IsOwnedBallot : ℕ → Type 0
IsOwnedBallot b = (1 ≤ b) × IsBallotNumber b

-- a shard's no is of locks or versions
abbrev pub IsShardReason : Reason → Type 0
IsShardReason (PromisedHigher b) = ⊥
IsShardReason reason = HasReason reason

abbrev pub HasMsg : Msg → Type 0
HasMsg (ReadAsk t k) = IsTxNumber t × IsKey k
HasMsg (ReadCancel t k) = IsTxNumber t × IsKey k
HasMsg (Granted t k d version held) = IsTxNumber t × IsKey k × IsDcNumber d × IsRow version held
HasMsg (Propose t b o) = IsTxNumber t × IsBallotNumber b × HasDecision o
HasMsg (Prepare t part) = IsTxNumber t × HasBody part
HasMsg (Prepared t s answer) = IsTxNumber t × IsShardNumber s × IfSome answer IsShardReason
HasMsg (Voted t b d o) = IsTxNumber t × IsBallotNumber b × IsDcNumber d × HasDecision o
HasMsg (Refused t b d reason) = IsTxNumber t × IsBallotNumber b × IsDcNumber d × HasReason reason
HasMsg (Ask t b) = IsTxNumber t × IsOwnedBallot b
HasMsg (Promise t b d report) = IsTxNumber t × IsOwnedBallot b × IsDcNumber d × HasReport report
HasMsg (Decided t o) = IsTxNumber t × HasDecision o
HasMsg (Finish t o) = IsTxNumber t × HasDecision o
HasMsg (Abandon t) = IsTxNumber t
HasMsg (CatchAsk place) = IsPlace place
HasMsg (CatchPage d place page) = IsDcNumber d × IsPlace place × HasPage page

pub record HasEnvelope (e : Envelope) : Type 0 where
  pub from : IsPartyName e.from
  pub to : IsPartyName e.to
  pub msg : HasMsg e.msg
