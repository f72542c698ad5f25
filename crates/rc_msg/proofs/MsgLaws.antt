-- Messages are read where their spelling stands first, and nowhere else.
use Rattle.std.proofs.Common.{◌≡◌, ℕ, zero, suc, ◌==◌, ◌≢◌, Bool, true, false, cond, not, List, ◌++◌, Option, Some, None, refl, ap}
use Rattle.std.specs.Prelude.{IfSome, is_some, nat_le}
use Rattle.std.proofs.lemmas.Bool.{leb-true, le-leb}
use Rattle.rc_ids.specs.Texts.{IsKey}
use Rattle.rc_ids.specs.declared.names.Party.{Party}
use Rattle.rc_fields.specs.Ranges.{IsDcNumber, IsShardNumber, IsTxNumber, IsPlace, IsBallotNumber, IsVersionNumber, IsPartyName}
use Rattle.rc_fields.specs.Spelling.{u8_bytes, u32_bytes, u64_bytes, key_bytes, party_bytes}
use Rattle.rc_fields.specs.Formats.{Reads, both_at, tested_at, tagged_at, pick, none_at, option_bytes, option_at}
use Rattle.rc_fields.specs.Whole.{ReadsAll}
use Rattle.rc_fields.specs.Names.{place_at, tx_at, ballot_at, version_at, dc_at, shard_at, key_at, party_at}
use Rattle.rc_fields.proofs.FormatLaws.{Reads-mapped, Reads-same, Reads-both, Reads-tested, Reads-tagged, Picks, Picks-end, Picks-more, Takes, Takes-none, Takes-mapped, mapped_again, Chooses-pick, Reads-option}
use Rattle.rc_fields.proofs.NameLaws.{Reads-place, Reads-tx, Reads-ballot, Reads-version, Reads-dc, Reads-shard, Reads-key, Reads-party}
use Rattle.rc_fields.proofs.WholeLaws.{Reads-all}
use Rattle.rc_body.specs.Spelling.{held_bytes, body_bytes, decision_bytes, reason_bytes, report_bytes, page_bytes, HasHeld, HasBody, HasDecision, HasReason, HasReport, HasPage}
use Rattle.rc_body.specs.Reading.{held_at, body_at, decision_at, reason_at, report_at, page_at}
use Rattle.rc_body.proofs.ReadingLaws.{Reads-held, Reads-body, Reads-decision, Reads-reason, Reads-report, Reads-page}
use Rattle.rc_body.specs.declared.entry.Entry.{Entry}
use Rattle.rc_body.specs.declared.decision.Decision.{Decision}
use Rattle.rc_body.specs.declared.reason.Reason.{Reason}
use Rattle.rc_body.specs.declared.reason.Reason.TheVariants.{Locked, Lost, Stale, Promised as PromisedHigher}
use Rattle.rc_msg.specs.declared.msg.Envelope.{Envelope}
use Rattle.rc_msg.specs.declared.msg.Msg.{Msg}
use Rattle.rc_msg.specs.declared.msg.Msg.TheVariants.{ReadAsk, ReadCancel, Granted, Propose, Prepare, Prepared, Voted, Refused, Ask, Promise, Decided, Finish, Abandon, CatchAsk, CatchPage}
use Rattle.rc_msg.specs.Spelling.{answer_bytes, msg_bytes, envelope_bytes, IsOwnedBallot, IsShardReason, HasMsg, HasEnvelope}
use Rattle.rc_msg.specs.Reading.{owned_at, is_shard_reason, answer_at, TxKey, tx_key_at, Grant, has_row, grant_at, TxBallot, tx_ballot_at, tx_owned_at, read_ask_at, read_cancel_at, granted_at, propose_at, prepare_at, prepared_at, voted_at, refused_at, ask_at, promise_at, decided_at, finish_at, abandon_at, catch_ask_at, catch_page_at, kinds_at, msg_at, envelope_of, envelope_at, envelope_in}

-- FIELDS
Reads-owned : Reads u32_bytes IsOwnedBallot owned_at
unfolding owned_at
Reads-owned =
    Reads-same u32_bytes (λ b. IsBallotNumber b × (nat_le 1 b ≡ true)) (tested_at (nat_le 1) ballot_at) u32_bytes IsOwnedBallot
    (Reads-tested u32_bytes IsBallotNumber ballot_at (nat_le 1) Reads-ballot)
    (λ b fits. ((leb-true 1 b fits.1, fits.0), refl)) (λ b fits. (fits.1, le-leb 1 b fits.0))

abbrev IsTested : Reason → Type 0
IsTested r = HasReason r × (is_shard_reason r ≡ true)

reason_forth : (r : Reason) → IsTested r → IsShardReason r
reason_forth (Locked k t) fits = fits.0
reason_forth (Lost k) fits = fits.0
reason_forth (Stale k v) fits = fits.0
reason_forth (PromisedHigher b) fits = let no : false ≡ true = fits.1 in cc

reason_back : (r : Reason) → IsShardReason r → IsTested r
reason_back (Locked k t) fits = (fits, refl)
reason_back (Lost k) fits = (fits, refl)
reason_back (Stale k v) fits = (fits, refl)
reason_back (PromisedHigher b) fits = absurd fits

Reads-shard_reason : Reads reason_bytes IsShardReason (tested_at is_shard_reason reason_at)
Reads-shard_reason =
    Reads-same reason_bytes IsTested (tested_at is_shard_reason reason_at) reason_bytes IsShardReason
    (Reads-tested reason_bytes HasReason reason_at is_shard_reason Reads-reason)
    (λ r fits. (reason_forth r fits, refl)) reason_back

answer_spelled : (o : Option Reason) → answer_bytes o ≡ option_bytes reason_bytes o
answer_spelled None = refl
answer_spelled (Some r) = refl

Reads-answer : Reads answer_bytes (λ o. IfSome o IsShardReason) answer_at
unfolding answer_at
Reads-answer =
    Reads-same (option_bytes reason_bytes) (λ o. IfSome o IsShardReason) (option_at (tested_at is_shard_reason reason_at)) answer_bytes (λ o. IfSome o IsShardReason)
    (Reads-option reason_bytes IsShardReason (tested_at is_shard_reason reason_at) Reads-shard_reason)
    (λ o fits. (fits, answer_spelled o)) (λ o fits. fits)

abbrev tx_key_bytes : TxKey → List ℕ
tx_key_bytes f = u32_bytes f.0 ++ key_bytes f.1

abbrev HasTxKey : TxKey → Type 0
HasTxKey f = IsTxNumber f.0 × IsKey f.1

Reads-tx_key : Reads tx_key_bytes HasTxKey tx_key_at
unfolding tx_key_at
Reads-tx_key = Reads-both u32_bytes IsTxNumber tx_at key_bytes IsKey key_at Reads-tx Reads-key

abbrev tx_ballot_bytes : TxBallot → List ℕ
tx_ballot_bytes f = u32_bytes f.0 ++ u32_bytes f.1

abbrev HasTxBallot : TxBallot → Type 0
HasTxBallot f = IsTxNumber f.0 × IsBallotNumber f.1

Reads-tx_ballot : Reads tx_ballot_bytes HasTxBallot tx_ballot_at
unfolding tx_ballot_at
Reads-tx_ballot = Reads-both u32_bytes IsTxNumber tx_at u32_bytes IsBallotNumber ballot_at Reads-tx Reads-ballot

abbrev HasTxOwned : TxBallot → Type 0
HasTxOwned f = IsTxNumber f.0 × IsOwnedBallot f.1

Reads-tx_owned : Reads tx_ballot_bytes HasTxOwned tx_owned_at
unfolding tx_owned_at
Reads-tx_owned = Reads-both u32_bytes IsTxNumber tx_at u32_bytes IsOwnedBallot owned_at Reads-tx Reads-owned

-- a grant has a value exactly at the versions from 1 on
abbrev KeyDc : Type 0
KeyDc = TxKey × ℕ

abbrev key_dc_bytes : KeyDc → List ℕ
key_dc_bytes f = tx_key_bytes f.0 ++ u8_bytes f.1

abbrev HasKeyDc : KeyDc → Type 0
HasKeyDc f = HasTxKey f.0 × IsDcNumber f.1

abbrev grant_bytes : Grant → List ℕ
grant_bytes g = (key_dc_bytes g.0.0 ++ u64_bytes g.0.1) ++ held_bytes g.1

abbrev HasGrant : Grant → Type 0
HasGrant g = (HasKeyDc g.0.0 × IsVersionNumber g.0.1) × HasHeld g.1

Reads-grant : Reads grant_bytes (λ g. HasGrant g × (has_row g ≡ true)) grant_at
unfolding grant_at
Reads-grant =
    Reads-tested grant_bytes HasGrant (both_at (both_at (both_at tx_key_at dc_at) version_at) held_at) has_row
    (Reads-both (λ (f : KeyDc × ℕ). key_dc_bytes f.0 ++ u64_bytes f.1) (λ (f : KeyDc × ℕ). HasKeyDc f.0 × IsVersionNumber f.1) (both_at (both_at tx_key_at dc_at) version_at)
    held_bytes HasHeld held_at
    (Reads-both key_dc_bytes HasKeyDc (both_at tx_key_at dc_at) u64_bytes IsVersionNumber version_at
    (Reads-both tx_key_bytes HasTxKey tx_key_at u8_bytes IsDcNumber dc_at Reads-tx_key Reads-dc) Reads-version) Reads-held)

row_forth : (zero_version some : Bool) → cond zero_version (not some) some ≡ true → some ≡ not zero_version
row_forth true true e = cc
row_forth true false e = refl
row_forth false some e = e

row_back : (zero_version some : Bool) → some ≡ not zero_version → cond zero_version (not some) some ≡ true
row_back true some e = ap not e
row_back false some e = e

abbrev BallotDecision : Type 0
BallotDecision = TxBallot × Decision

abbrev ballot_decision_bytes : BallotDecision → List ℕ
ballot_decision_bytes f = tx_ballot_bytes f.0 ++ decision_bytes f.1

abbrev HasBallotDecision : BallotDecision → Type 0
HasBallotDecision f = HasTxBallot f.0 × HasDecision f.1

Reads-ballot_decision : Reads ballot_decision_bytes HasBallotDecision (both_at tx_ballot_at decision_at)
Reads-ballot_decision = Reads-both tx_ballot_bytes HasTxBallot tx_ballot_at decision_bytes HasDecision decision_at Reads-tx_ballot Reads-decision

abbrev TxBody : Type 0
TxBody = ℕ × List Entry

abbrev tx_body_bytes : TxBody → List ℕ
tx_body_bytes f = u32_bytes f.0 ++ body_bytes f.1

abbrev HasTxBody : TxBody → Type 0
HasTxBody f = IsTxNumber f.0 × HasBody f.1

Reads-tx_body : Reads tx_body_bytes HasTxBody (both_at tx_at body_at)
Reads-tx_body = Reads-both u32_bytes IsTxNumber tx_at body_bytes HasBody body_at Reads-tx Reads-body

abbrev TxShard : Type 0
TxShard = ℕ × ℕ

abbrev tx_shard_bytes : TxShard → List ℕ
tx_shard_bytes f = u32_bytes f.0 ++ u8_bytes f.1

abbrev HasTxShard : TxShard → Type 0
HasTxShard f = IsTxNumber f.0 × IsShardNumber f.1

Reads-tx_shard : Reads tx_shard_bytes HasTxShard (both_at tx_at shard_at)
Reads-tx_shard = Reads-both u32_bytes IsTxNumber tx_at u8_bytes IsShardNumber shard_at Reads-tx Reads-shard

abbrev HasAnswer : Option Reason → Type 0
HasAnswer o = IfSome o IsShardReason

abbrev ShardAnswer : Type 0
ShardAnswer = TxShard × Option Reason

abbrev shard_answer_bytes : ShardAnswer → List ℕ
shard_answer_bytes f = tx_shard_bytes f.0 ++ answer_bytes f.1

abbrev HasShardAnswer : ShardAnswer → Type 0
HasShardAnswer f = HasTxShard f.0 × HasAnswer f.1

Reads-shard_answer : Reads shard_answer_bytes HasShardAnswer (both_at (both_at tx_at shard_at) answer_at)
Reads-shard_answer = Reads-both tx_shard_bytes HasTxShard (both_at tx_at shard_at) answer_bytes HasAnswer answer_at Reads-tx_shard Reads-answer

abbrev BallotDc : Type 0
BallotDc = TxBallot × ℕ

abbrev ballot_dc_bytes : BallotDc → List ℕ
ballot_dc_bytes f = tx_ballot_bytes f.0 ++ u8_bytes f.1

abbrev HasBallotDc : BallotDc → Type 0
HasBallotDc f = HasTxBallot f.0 × IsDcNumber f.1

Reads-ballot_dc : Reads ballot_dc_bytes HasBallotDc (both_at tx_ballot_at dc_at)
Reads-ballot_dc = Reads-both tx_ballot_bytes HasTxBallot tx_ballot_at u8_bytes IsDcNumber dc_at Reads-tx_ballot Reads-dc

abbrev DcDecision : Type 0
DcDecision = BallotDc × Decision

abbrev dc_decision_bytes : DcDecision → List ℕ
dc_decision_bytes f = ballot_dc_bytes f.0 ++ decision_bytes f.1

abbrev HasDcDecision : DcDecision → Type 0
HasDcDecision f = HasBallotDc f.0 × HasDecision f.1

Reads-dc_decision : Reads dc_decision_bytes HasDcDecision (both_at (both_at tx_ballot_at dc_at) decision_at)
Reads-dc_decision = Reads-both ballot_dc_bytes HasBallotDc (both_at tx_ballot_at dc_at) decision_bytes HasDecision decision_at Reads-ballot_dc Reads-decision

abbrev DcReason : Type 0
DcReason = BallotDc × Reason

abbrev dc_reason_bytes : DcReason → List ℕ
dc_reason_bytes f = ballot_dc_bytes f.0 ++ reason_bytes f.1

abbrev HasDcReason : DcReason → Type 0
HasDcReason f = HasBallotDc f.0 × HasReason f.1

Reads-dc_reason : Reads dc_reason_bytes HasDcReason (both_at (both_at tx_ballot_at dc_at) reason_at)
Reads-dc_reason = Reads-both ballot_dc_bytes HasBallotDc (both_at tx_ballot_at dc_at) reason_bytes HasReason reason_at Reads-ballot_dc Reads-reason

abbrev OwnedDc : Type 0
OwnedDc = TxBallot × ℕ

abbrev owned_dc_bytes : OwnedDc → List ℕ
owned_dc_bytes f = tx_ballot_bytes f.0 ++ u8_bytes f.1

abbrev HasOwnedDc : OwnedDc → Type 0
HasOwnedDc f = HasTxOwned f.0 × IsDcNumber f.1

Reads-owned_dc : Reads owned_dc_bytes HasOwnedDc (both_at tx_owned_at dc_at)
Reads-owned_dc = Reads-both tx_ballot_bytes HasTxOwned tx_owned_at u8_bytes IsDcNumber dc_at Reads-tx_owned Reads-dc

abbrev DcReport : Type 0
DcReport = OwnedDc × Option (ℕ × Decision)

abbrev dc_report_bytes : DcReport → List ℕ
dc_report_bytes f = owned_dc_bytes f.0 ++ report_bytes f.1

abbrev HasDcReport : DcReport → Type 0
HasDcReport f = HasOwnedDc f.0 × HasReport f.1

Reads-dc_report : Reads dc_report_bytes HasDcReport (both_at (both_at tx_owned_at dc_at) report_at)
Reads-dc_report = Reads-both owned_dc_bytes HasOwnedDc (both_at tx_owned_at dc_at) report_bytes HasReport report_at Reads-owned_dc Reads-report

abbrev TxDecision : Type 0
TxDecision = ℕ × Decision

abbrev tx_decision_bytes : TxDecision → List ℕ
tx_decision_bytes f = u32_bytes f.0 ++ decision_bytes f.1

abbrev HasTxDecision : TxDecision → Type 0
HasTxDecision f = IsTxNumber f.0 × HasDecision f.1

Reads-tx_decision : Reads tx_decision_bytes HasTxDecision (both_at tx_at decision_at)
Reads-tx_decision = Reads-both u32_bytes IsTxNumber tx_at decision_bytes HasDecision decision_at Reads-tx Reads-decision

abbrev DcPlace : Type 0
DcPlace = ℕ × ℕ

abbrev dc_place_bytes : DcPlace → List ℕ
dc_place_bytes f = u8_bytes f.0 ++ u32_bytes f.1

abbrev HasDcPlace : DcPlace → Type 0
HasDcPlace f = IsDcNumber f.0 × IsPlace f.1

Reads-dc_place : Reads dc_place_bytes HasDcPlace (both_at dc_at place_at)
Reads-dc_place = Reads-both u8_bytes IsDcNumber dc_at u32_bytes IsPlace place_at Reads-dc Reads-place

abbrev PlacePage : Type 0
PlacePage = DcPlace × List (ℕ × Decision)

abbrev place_page_bytes : PlacePage → List ℕ
place_page_bytes f = dc_place_bytes f.0 ++ page_bytes f.1

abbrev HasPlacePage : PlacePage → Type 0
HasPlacePage f = HasDcPlace f.0 × HasPage f.1

Reads-place_page : Reads place_page_bytes HasPlacePage (both_at (both_at dc_at place_at) page_at)
Reads-place_page = Reads-both dc_place_bytes HasDcPlace (both_at dc_at place_at) page_bytes HasPage page_at Reads-dc_place Reads-page

abbrev HasRow : Grant → Type 0
HasRow g = HasGrant g × (has_row g ≡ true)

grant_forth : (g : Grant) → HasRow g → HasMsg (Granted g.0.0.0.0 g.0.0.0.1 g.0.0.1 g.0.1 g.1)
grant_forth g fits =
    (fits.0.0.0.0.0, fits.0.0.0.0.1, fits.0.0.0.1, (fits.0.0.1, fits.0.1, row_forth (g.0.1 == 0) (is_some g.1) fits.1))

grant_back : (g : Grant) → HasMsg (Granted g.0.0.0.0 g.0.0.0.1 g.0.0.1 g.0.1 g.1) → HasRow g
grant_back g fits =
    (((((fits.0, fits.1), fits.2), fits.3.0), fits.3.1), row_back (g.0.1 == 0) (is_some g.1) fits.3.2)

-- KINDS
abbrev kind_of : Msg → ℕ
kind_of (ReadAsk t k) = 1
kind_of (ReadCancel t k) = 2
kind_of (Granted t k d version held) = 3
kind_of (Propose t b o) = 4
kind_of (Prepare t part) = 5
kind_of (Prepared t s answer) = 6
kind_of (Voted t b d o) = 7
kind_of (Refused t b d reason) = 8
kind_of (Ask t b) = 9
kind_of (Promise t b d report) = 10
kind_of (Decided t o) = 11
kind_of (Finish t o) = 12
kind_of (Abandon t) = 13
kind_of (CatchAsk place) = 14
kind_of (CatchPage d place page) = 15

abbrev fields_of : Msg → List ℕ
fields_of (ReadAsk t k) = tx_key_bytes (t, k)
fields_of (ReadCancel t k) = tx_key_bytes (t, k)
fields_of (Granted t k d version held) = grant_bytes ((((t, k), d), version), held)
fields_of (Propose t b o) = ballot_decision_bytes ((t, b), o)
fields_of (Prepare t part) = tx_body_bytes (t, part)
fields_of (Prepared t s answer) = shard_answer_bytes ((t, s), answer)
fields_of (Voted t b d o) = dc_decision_bytes (((t, b), d), o)
fields_of (Refused t b d reason) = dc_reason_bytes (((t, b), d), reason)
fields_of (Ask t b) = tx_ballot_bytes (t, b)
fields_of (Promise t b d report) = dc_report_bytes (((t, b), d), report)
fields_of (Decided t o) = tx_decision_bytes (t, o)
fields_of (Finish t o) = tx_decision_bytes (t, o)
fields_of (Abandon t) = u32_bytes t
fields_of (CatchAsk place) = u32_bytes place
fields_of (CatchPage d place page) = place_page_bytes ((d, place), page)

spelled : (m : Msg) → msg_bytes m ≡ u8_bytes (kind_of m) ++ fields_of m
spelled (ReadAsk t k) = refl
spelled (ReadCancel t k) = refl
spelled (Granted t k d version held) = refl
spelled (Propose t b o) = refl
spelled (Prepare t part) = refl
spelled (Prepared t s answer) = refl
spelled (Voted t b d o) = refl
spelled (Refused t b d reason) = refl
spelled (Ask t b) = refl
spelled (Promise t b d report) = refl
spelled (Decided t o) = refl
spelled (Finish t o) = refl
spelled (Abandon t) = refl
spelled (CatchAsk place) = refl
spelled (CatchPage d place page) = refl

takes-read_ask : Takes kind_of fields_of HasMsg 1 read_ask_at
unfolding read_ask_at
takes-read_ask = Takes-mapped kind_of fields_of HasMsg 1 tx_key_bytes HasTxKey tx_key_at (λ (f : TxKey). ReadAsk f.0 f.1) Reads-tx_key (λ f fits. (refl, fits, refl))

takes-read_cancel : Takes kind_of fields_of HasMsg 2 read_cancel_at
unfolding read_cancel_at
takes-read_cancel = Takes-mapped kind_of fields_of HasMsg 2 tx_key_bytes HasTxKey tx_key_at (λ (f : TxKey). ReadCancel f.0 f.1) Reads-tx_key (λ f fits. (refl, fits, refl))

takes-granted : Takes kind_of fields_of HasMsg 3 granted_at
unfolding granted_at
takes-granted = Takes-mapped kind_of fields_of HasMsg 3 grant_bytes HasRow grant_at (λ (f : Grant). Granted f.0.0.0.0 f.0.0.0.1 f.0.0.1 f.0.1 f.1) Reads-grant (λ f fits. (refl, grant_forth f fits, refl))

takes-propose : Takes kind_of fields_of HasMsg 4 propose_at
unfolding propose_at
takes-propose = Takes-mapped kind_of fields_of HasMsg 4 ballot_decision_bytes HasBallotDecision (both_at tx_ballot_at decision_at) (λ (f : BallotDecision). Propose f.0.0 f.0.1 f.1) Reads-ballot_decision (λ f fits. (refl, (fits.0.0, fits.0.1, fits.1), refl))

takes-prepare : Takes kind_of fields_of HasMsg 5 prepare_at
unfolding prepare_at
takes-prepare = Takes-mapped kind_of fields_of HasMsg 5 tx_body_bytes HasTxBody (both_at tx_at body_at) (λ (f : TxBody). Prepare f.0 f.1) Reads-tx_body (λ f fits. (refl, fits, refl))

takes-prepared : Takes kind_of fields_of HasMsg 6 prepared_at
unfolding prepared_at
takes-prepared = Takes-mapped kind_of fields_of HasMsg 6 shard_answer_bytes HasShardAnswer (both_at (both_at tx_at shard_at) answer_at) (λ (f : ShardAnswer). Prepared f.0.0 f.0.1 f.1) Reads-shard_answer (λ f fits. (refl, (fits.0.0, fits.0.1, fits.1), refl))

takes-voted : Takes kind_of fields_of HasMsg 7 voted_at
unfolding voted_at
takes-voted = Takes-mapped kind_of fields_of HasMsg 7 dc_decision_bytes HasDcDecision (both_at (both_at tx_ballot_at dc_at) decision_at) (λ (f : DcDecision). Voted f.0.0.0 f.0.0.1 f.0.1 f.1) Reads-dc_decision (λ f fits. (refl, (fits.0.0.0, fits.0.0.1, fits.0.1, fits.1), refl))

takes-refused : Takes kind_of fields_of HasMsg 8 refused_at
unfolding refused_at
takes-refused = Takes-mapped kind_of fields_of HasMsg 8 dc_reason_bytes HasDcReason (both_at (both_at tx_ballot_at dc_at) reason_at) (λ (f : DcReason). Refused f.0.0.0 f.0.0.1 f.0.1 f.1) Reads-dc_reason (λ f fits. (refl, (fits.0.0.0, fits.0.0.1, fits.0.1, fits.1), refl))

takes-ask : Takes kind_of fields_of HasMsg 9 ask_at
unfolding ask_at
takes-ask = Takes-mapped kind_of fields_of HasMsg 9 tx_ballot_bytes HasTxOwned tx_owned_at (λ (f : TxBallot). Ask f.0 f.1) Reads-tx_owned (λ f fits. (refl, fits, refl))

takes-promise : Takes kind_of fields_of HasMsg 10 promise_at
unfolding promise_at
takes-promise = Takes-mapped kind_of fields_of HasMsg 10 dc_report_bytes HasDcReport (both_at (both_at tx_owned_at dc_at) report_at) (λ (f : DcReport). Promise f.0.0.0 f.0.0.1 f.0.1 f.1) Reads-dc_report (λ f fits. (refl, (fits.0.0.0, fits.0.0.1, fits.0.1, fits.1), refl))

takes-decided : Takes kind_of fields_of HasMsg 11 decided_at
unfolding decided_at
takes-decided = Takes-mapped kind_of fields_of HasMsg 11 tx_decision_bytes HasTxDecision (both_at tx_at decision_at) (λ (f : TxDecision). Decided f.0 f.1) Reads-tx_decision (λ f fits. (refl, fits, refl))

takes-finish : Takes kind_of fields_of HasMsg 12 finish_at
unfolding finish_at
takes-finish = Takes-mapped kind_of fields_of HasMsg 12 tx_decision_bytes HasTxDecision (both_at tx_at decision_at) (λ (f : TxDecision). Finish f.0 f.1) Reads-tx_decision (λ f fits. (refl, fits, refl))

takes-abandon : Takes kind_of fields_of HasMsg 13 abandon_at
unfolding abandon_at
takes-abandon = Takes-mapped kind_of fields_of HasMsg 13 u32_bytes IsTxNumber tx_at (Abandon) Reads-tx (λ f fits. (refl, fits, refl))

takes-catch_ask : Takes kind_of fields_of HasMsg 14 catch_ask_at
unfolding catch_ask_at
takes-catch_ask = Takes-mapped kind_of fields_of HasMsg 14 u32_bytes IsPlace place_at (CatchAsk) Reads-place (λ f fits. (refl, fits, refl))

takes-catch_page : Takes kind_of fields_of HasMsg 15 catch_page_at
unfolding catch_page_at
takes-catch_page = Takes-mapped kind_of fields_of HasMsg 15 place_page_bytes HasPlacePage (both_at (both_at dc_at place_at) page_at) (λ (f : PlacePage). CatchPage f.0.0 f.0.1 f.1) Reads-place_page (λ f fits. (refl, (fits.0.0, fits.0.1, fits.1), refl))

takes-kinds : Picks kind_of fields_of HasMsg 0 kinds_at
takes-kinds =
    Picks-more kind_of fields_of HasMsg 0 none_at _ (Takes-none kind_of fields_of HasMsg 0)
    (Picks-more kind_of fields_of HasMsg 1 read_ask_at _ takes-read_ask
    (Picks-more kind_of fields_of HasMsg 2 read_cancel_at _ takes-read_cancel
    (Picks-more kind_of fields_of HasMsg 3 granted_at _ takes-granted
    (Picks-more kind_of fields_of HasMsg 4 propose_at _ takes-propose
    (Picks-more kind_of fields_of HasMsg 5 prepare_at _ takes-prepare
    (Picks-more kind_of fields_of HasMsg 6 prepared_at _ takes-prepared
    (Picks-more kind_of fields_of HasMsg 7 voted_at _ takes-voted
    (Picks-more kind_of fields_of HasMsg 8 refused_at _ takes-refused
    (Picks-more kind_of fields_of HasMsg 9 ask_at _ takes-ask
    (Picks-more kind_of fields_of HasMsg 10 promise_at _ takes-promise
    (Picks-more kind_of fields_of HasMsg 11 decided_at _ takes-decided
    (Picks-more kind_of fields_of HasMsg 12 finish_at _ takes-finish
    (Picks-more kind_of fields_of HasMsg 13 abandon_at _ takes-abandon
    (Picks-more kind_of fields_of HasMsg 14 catch_ask_at _ takes-catch_ask
    (Picks-more kind_of fields_of HasMsg 15 catch_page_at _ takes-catch_page
    (Picks-end kind_of fields_of HasMsg 16))))))))))))))))

again : (m : Msg) (rest : List ℕ) → HasMsg m → pick kinds_at (kind_of m) (fields_of m ++ rest) ≡ Some (m, rest)
unfolding pick read_ask_at read_cancel_at granted_at propose_at prepare_at prepared_at voted_at refused_at ask_at promise_at decided_at finish_at abandon_at catch_ask_at catch_page_at
again (ReadAsk t k) rest fits = mapped_again tx_key_bytes HasTxKey tx_key_at (λ (f : TxKey). ReadAsk f.0 f.1) Reads-tx_key (t, k) rest fits
again (ReadCancel t k) rest fits = mapped_again tx_key_bytes HasTxKey tx_key_at (λ (f : TxKey). ReadCancel f.0 f.1) Reads-tx_key (t, k) rest fits
again (Granted t k d version held) rest fits = mapped_again grant_bytes HasRow grant_at (λ (f : Grant). Granted f.0.0.0.0 f.0.0.0.1 f.0.0.1 f.0.1 f.1) Reads-grant ((((t, k), d), version), held) rest (grant_back ((((t, k), d), version), held) fits)
again (Propose t b o) rest fits = mapped_again ballot_decision_bytes HasBallotDecision (both_at tx_ballot_at decision_at) (λ (f : BallotDecision). Propose f.0.0 f.0.1 f.1) Reads-ballot_decision ((t, b), o) rest ((fits.0, fits.1), fits.2)
again (Prepare t part) rest fits = mapped_again tx_body_bytes HasTxBody (both_at tx_at body_at) (λ (f : TxBody). Prepare f.0 f.1) Reads-tx_body (t, part) rest fits
again (Prepared t s answer) rest fits = mapped_again shard_answer_bytes HasShardAnswer (both_at (both_at tx_at shard_at) answer_at) (λ (f : ShardAnswer). Prepared f.0.0 f.0.1 f.1) Reads-shard_answer ((t, s), answer) rest ((fits.0, fits.1), fits.2)
again (Voted t b d o) rest fits = mapped_again dc_decision_bytes HasDcDecision (both_at (both_at tx_ballot_at dc_at) decision_at) (λ (f : DcDecision). Voted f.0.0.0 f.0.0.1 f.0.1 f.1) Reads-dc_decision (((t, b), d), o) rest (((fits.0, fits.1), fits.2), fits.3)
again (Refused t b d reason) rest fits = mapped_again dc_reason_bytes HasDcReason (both_at (both_at tx_ballot_at dc_at) reason_at) (λ (f : DcReason). Refused f.0.0.0 f.0.0.1 f.0.1 f.1) Reads-dc_reason (((t, b), d), reason) rest (((fits.0, fits.1), fits.2), fits.3)
again (Ask t b) rest fits = mapped_again tx_ballot_bytes HasTxOwned tx_owned_at (λ (f : TxBallot). Ask f.0 f.1) Reads-tx_owned (t, b) rest fits
again (Promise t b d report) rest fits = mapped_again dc_report_bytes HasDcReport (both_at (both_at tx_owned_at dc_at) report_at) (λ (f : DcReport). Promise f.0.0.0 f.0.0.1 f.0.1 f.1) Reads-dc_report (((t, b), d), report) rest (((fits.0, fits.1), fits.2), fits.3)
again (Decided t o) rest fits = mapped_again tx_decision_bytes HasTxDecision (both_at tx_at decision_at) (λ (f : TxDecision). Decided f.0 f.1) Reads-tx_decision (t, o) rest fits
again (Finish t o) rest fits = mapped_again tx_decision_bytes HasTxDecision (both_at tx_at decision_at) (λ (f : TxDecision). Finish f.0 f.1) Reads-tx_decision (t, o) rest fits
again (Abandon t) rest fits = mapped_again u32_bytes IsTxNumber tx_at (Abandon) Reads-tx t rest fits
again (CatchAsk place) rest fits = mapped_again u32_bytes IsPlace place_at (CatchAsk) Reads-place place rest fits
again (CatchPage d place page) rest fits = mapped_again place_page_bytes HasPlacePage (both_at (both_at dc_at place_at) page_at) (λ (f : PlacePage). CatchPage f.0.0 f.0.1 f.1) Reads-place_page ((d, place), page) rest ((fits.0, fits.1), fits.2)

pub Reads-msg : Reads msg_bytes HasMsg msg_at
unfolding msg_at
Reads-msg =
    Reads-same (λ m. u8_bytes (kind_of m) ++ fields_of m) HasMsg (tagged_at (pick kinds_at)) msg_bytes HasMsg
    (Reads-tagged kind_of fields_of HasMsg (pick kinds_at) (Chooses-pick kind_of fields_of HasMsg kinds_at takes-kinds again))
    (λ m fits. (fits, spelled m)) (λ m fits. fits)

-- ENVELOPES
abbrev Parts : Type 0
Parts = (Party × Party) × Msg

abbrev parties_bytes : Party × Party → List ℕ
parties_bytes p = party_bytes p.0 ++ party_bytes p.1

abbrev ArePartyNames : Party × Party → Type 0
ArePartyNames p = IsPartyName p.0 × IsPartyName p.1

pub Reads-envelope : Reads envelope_bytes HasEnvelope envelope_at
unfolding envelope_at
Reads-envelope =
    Reads-mapped (λ (p : Parts). parties_bytes p.0 ++ msg_bytes p.1) (λ (p : Parts). ArePartyNames p.0 × HasMsg p.1) (both_at (both_at party_at party_at) msg_at)
    envelope_of (λ (e : Envelope). ((e.from, e.to), e.msg)) envelope_bytes HasEnvelope
    (Reads-both parties_bytes ArePartyNames (both_at party_at party_at) msg_bytes HasMsg msg_at
    (Reads-both party_bytes IsPartyName party_at party_bytes IsPartyName party_at Reads-party Reads-party) Reads-msg)
    (λ p fits. (record { from = fits.0.0; to = fits.0.1; msg = fits.1 }, refl))
    (λ e fits. (((fits.from, fits.to), fits.msg), refl))

pub Reads-envelope_in : ReadsAll envelope_bytes HasEnvelope envelope_in
unfolding envelope_in
Reads-envelope_in = Reads-all envelope_bytes HasEnvelope envelope_at Reads-envelope

-- a kind that is none of the 15 has no messages
pub no_kind : (kind : ℕ) (bytes : List ℕ) → kind ≢ 1 → kind ≢ 2 → kind ≢ 3 → kind ≢ 4 → kind ≢ 5 → kind ≢ 6 → kind ≢ 7 → kind ≢ 8 → kind ≢ 9 → kind ≢ 10 → kind ≢ 11 → kind ≢ 12 → kind ≢ 13 → kind ≢ 14 → kind ≢ 15 → pick kinds_at kind bytes ≡ None
unfolding pick none_at
no_kind zero bytes n1 n2 n3 n4 n5 n6 n7 n8 n9 n10 n11 n12 n13 n14 n15 = refl
no_kind (suc zero) bytes n1 n2 n3 n4 n5 n6 n7 n8 n9 n10 n11 n12 n13 n14 n15 = absurd (n1 refl)
no_kind (suc (suc zero)) bytes n1 n2 n3 n4 n5 n6 n7 n8 n9 n10 n11 n12 n13 n14 n15 = absurd (n2 refl)
no_kind (suc (suc (suc zero))) bytes n1 n2 n3 n4 n5 n6 n7 n8 n9 n10 n11 n12 n13 n14 n15 = absurd (n3 refl)
no_kind (suc (suc (suc (suc zero)))) bytes n1 n2 n3 n4 n5 n6 n7 n8 n9 n10 n11 n12 n13 n14 n15 = absurd (n4 refl)
no_kind (suc (suc (suc (suc (suc zero))))) bytes n1 n2 n3 n4 n5 n6 n7 n8 n9 n10 n11 n12 n13 n14 n15 = absurd (n5 refl)
no_kind (suc (suc (suc (suc (suc (suc zero)))))) bytes n1 n2 n3 n4 n5 n6 n7 n8 n9 n10 n11 n12 n13 n14 n15 = absurd (n6 refl)
no_kind (suc (suc (suc (suc (suc (suc (suc zero))))))) bytes n1 n2 n3 n4 n5 n6 n7 n8 n9 n10 n11 n12 n13 n14 n15 = absurd (n7 refl)
no_kind (suc (suc (suc (suc (suc (suc (suc (suc zero)))))))) bytes n1 n2 n3 n4 n5 n6 n7 n8 n9 n10 n11 n12 n13 n14 n15 = absurd (n8 refl)
no_kind (suc (suc (suc (suc (suc (suc (suc (suc (suc zero))))))))) bytes n1 n2 n3 n4 n5 n6 n7 n8 n9 n10 n11 n12 n13 n14 n15 = absurd (n9 refl)
no_kind (suc (suc (suc (suc (suc (suc (suc (suc (suc (suc zero)))))))))) bytes n1 n2 n3 n4 n5 n6 n7 n8 n9 n10 n11 n12 n13 n14 n15 = absurd (n10 refl)
no_kind (suc (suc (suc (suc (suc (suc (suc (suc (suc (suc (suc zero))))))))))) bytes n1 n2 n3 n4 n5 n6 n7 n8 n9 n10 n11 n12 n13 n14 n15 = absurd (n11 refl)
no_kind (suc (suc (suc (suc (suc (suc (suc (suc (suc (suc (suc (suc zero)))))))))))) bytes n1 n2 n3 n4 n5 n6 n7 n8 n9 n10 n11 n12 n13 n14 n15 = absurd (n12 refl)
no_kind (suc (suc (suc (suc (suc (suc (suc (suc (suc (suc (suc (suc (suc zero))))))))))))) bytes n1 n2 n3 n4 n5 n6 n7 n8 n9 n10 n11 n12 n13 n14 n15 = absurd (n13 refl)
no_kind (suc (suc (suc (suc (suc (suc (suc (suc (suc (suc (suc (suc (suc (suc zero)))))))))))))) bytes n1 n2 n3 n4 n5 n6 n7 n8 n9 n10 n11 n12 n13 n14 n15 = absurd (n14 refl)
no_kind (suc (suc (suc (suc (suc (suc (suc (suc (suc (suc (suc (suc (suc (suc (suc zero))))))))))))))) bytes n1 n2 n3 n4 n5 n6 n7 n8 n9 n10 n11 n12 n13 n14 n15 = absurd (n15 refl)
no_kind (suc (suc (suc (suc (suc (suc (suc (suc (suc (suc (suc (suc (suc (suc (suc (suc k)))))))))))))))) bytes n1 n2 n3 n4 n5 n6 n7 n8 n9 n10 n11 n12 n13 n14 n15 = refl
