-- Reading messages from the front of bytes.
use Rattle.std.specs.Prelude.{ℕ, ◌==◌, nat_le, Bool, true, false, not, List, [], ◌∷◌, Option, is_some, if◌then◌else◌}
use Rattle.rc_ids.specs.declared.names.Party.{Party}
use Rattle.rc_fields.specs.Formats.{Reader, both_at, mapped_at, tested_at, tagged_at, pick, none_at, option_at}
use Rattle.rc_fields.specs.Whole.{all_of}
use Rattle.rc_fields.specs.Names.{place_at, tx_at, ballot_at, version_at, dc_at, shard_at, key_at, party_at}
use Rattle.rc_body.specs.Reading.{held_at, body_at, decision_at, reason_at, report_at, page_at}
use Rattle.rc_body.specs.declared.entry.Entry.{Entry}
use Rattle.rc_body.specs.declared.decision.Decision.{Decision}
use Rattle.rc_body.specs.declared.reason.Reason.{Reason}
use Rattle.rc_body.specs.declared.reason.Reason.TheVariants.{Promised as PromisedHigher}
use Rattle.rc_msg.specs.declared.msg.Envelope.{Envelope}
use Rattle.rc_msg.specs.declared.msg.Msg.{Msg}
use Rattle.rc_msg.specs.declared.msg.Msg.TheVariants.{ReadAsk, ReadCancel, Granted, Propose, Prepare, Prepared, Voted, Refused, Ask, Promise, Decided, Finish, Abandon, CatchAsk, CatchPage}

-- FIELDS
-- the ballot of a take-over
unfoldable pub owned_at : Reader ℕ
owned_at = tested_at (nat_le 1) ballot_at

abbrev pub is_shard_reason : Reason → Bool
is_shard_reason (PromisedHigher b) = false
is_shard_reason _ = true

-- a shard's yes, or its no
unfoldable pub answer_at : Reader (Option Reason)
answer_at = option_at (tested_at is_shard_reason reason_at)

abbrev pub TxKey : Type 0
TxKey = ℕ × List ℕ

unfoldable pub tx_key_at : Reader TxKey
tx_key_at = both_at tx_at key_at

abbrev pub Grant : Type 0
Grant = ((TxKey × ℕ) × ℕ) × Option (List ℕ)

-- a value is there exactly at the versions from 1 on
abbrev pub has_row : Grant → Bool
has_row g = if g.0.1 == 0 then not (is_some g.1) else is_some g.1

unfoldable pub grant_at : Reader Grant
grant_at = tested_at has_row (both_at (both_at (both_at tx_key_at dc_at) version_at) held_at)

abbrev pub TxBallot : Type 0
TxBallot = ℕ × ℕ

unfoldable pub tx_ballot_at : Reader TxBallot
tx_ballot_at = both_at tx_at ballot_at

unfoldable pub tx_owned_at : Reader TxBallot
tx_owned_at = both_at tx_at owned_at

-- KINDS
unfoldable pub read_ask_at : Reader Msg
read_ask_at = mapped_at (λ (f : TxKey). ReadAsk f.0 f.1) tx_key_at

unfoldable pub read_cancel_at : Reader Msg
read_cancel_at = mapped_at (λ (f : TxKey). ReadCancel f.0 f.1) tx_key_at

unfoldable pub granted_at : Reader Msg
granted_at = mapped_at (λ ((((t, k), d), version), value). Granted t k d version value) grant_at

unfoldable pub propose_at : Reader Msg
propose_at = mapped_at (λ ((t, b), o). Propose t b o) (both_at tx_ballot_at decision_at)

unfoldable pub prepare_at : Reader Msg
prepare_at = mapped_at (λ (f : ℕ × List Entry). Prepare f.0 f.1) (both_at tx_at body_at)

unfoldable pub prepared_at : Reader Msg
prepared_at = mapped_at (λ ((t, s), reason). Prepared t s reason) (both_at (both_at tx_at shard_at) answer_at)

unfoldable pub voted_at : Reader Msg
voted_at = mapped_at (λ (((t, b), d), o). Voted t b d o) (both_at (both_at tx_ballot_at dc_at) decision_at)

unfoldable pub refused_at : Reader Msg
refused_at = mapped_at (λ (((t, b), d), reason). Refused t b d reason) (both_at (both_at tx_ballot_at dc_at) reason_at)

unfoldable pub ask_at : Reader Msg
ask_at = mapped_at (λ (f : TxBallot). Ask f.0 f.1) tx_owned_at

unfoldable pub promise_at : Reader Msg
promise_at = mapped_at (λ (((t, b), d), report). Promise t b d report) (both_at (both_at tx_owned_at dc_at) report_at)

unfoldable pub decided_at : Reader Msg
decided_at = mapped_at (λ (f : ℕ × Decision). Decided f.0 f.1) (both_at tx_at decision_at)

unfoldable pub finish_at : Reader Msg
finish_at = mapped_at (λ (f : ℕ × Decision). Finish f.0 f.1) (both_at tx_at decision_at)

unfoldable pub abandon_at : Reader Msg
abandon_at = mapped_at Abandon tx_at

unfoldable pub catch_ask_at : Reader Msg
catch_ask_at = mapped_at CatchAsk place_at

unfoldable pub catch_page_at : Reader Msg
catch_page_at = mapped_at (λ ((d, place), page). CatchPage d place page) (both_at (both_at dc_at place_at) page_at)

-- the kinds from 0 on
abbrev pub kinds_at : List (Reader Msg)
kinds_at =
    none_at ∷ read_ask_at ∷ read_cancel_at ∷ granted_at ∷ propose_at ∷ prepare_at ∷ prepared_at ∷ voted_at ∷ refused_at ∷ ask_at
    ∷ promise_at ∷ decided_at ∷ finish_at ∷ abandon_at ∷ catch_ask_at ∷ catch_page_at ∷ []

-- the kind, and its fields
unfoldable pub msg_at : Reader Msg
msg_at = tagged_at (pick kinds_at)

abbrev pub envelope_of : (Party × Party) × Msg → Envelope
envelope_of e = record { from = e.0.0; to = e.0.1; msg = e.1 }

unfoldable pub envelope_at : Reader Envelope
envelope_at = mapped_at envelope_of (both_at (both_at party_at party_at) msg_at)

-- what all of the bytes spell
unfoldable pub envelope_in : List ℕ → Option Envelope
envelope_in bytes = all_of envelope_at bytes
