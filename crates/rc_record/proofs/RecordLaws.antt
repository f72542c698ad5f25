-- Records are read where their spelling stands first, and nowhere else.
use Rattle.std.proofs.Common.{◌≡◌, ◌≢◌, ℕ, zero, suc, Bool, true, false, List, [], ◌∷◌, ◌++◌, length, Option, Some, None, refl, sym, ap, ◌∙◌, arith}
use Rattle.std.specs.Prelude.{nat_le}
use Rattle.std.proofs.lemmas.Bool.{leb-true, le-leb}
use Rattle.rc_fields.specs.Ranges.{IsTxNumber, IsBallotNumber}
use Rattle.rc_fields.specs.Spelling.{u8_bytes, u32_bytes}
use Rattle.rc_fields.specs.Formats.{Reader, Reads, both_at, mapped_at, tested_at, tagged_at, pick}
use Rattle.rc_fields.specs.Whole.{ReadsAll, all_of}
use Rattle.rc_fields.specs.Names.{tx_at, ballot_at}
use Rattle.rc_fields.proofs.FormatLaws.{Reads-same, Reads-both, Reads-tested, Reads-tagged, Picks, Picks-end, Picks-more, Takes, Takes-mapped, mapped_again, Chooses-pick}
use Rattle.rc_fields.proofs.NameLaws.{Reads-tx, Reads-ballot}
use Rattle.rc_fields.proofs.WholeLaws.{Reads-all}
use Rattle.rc_body.specs.Spelling.{body_bytes, decision_bytes, page_bytes, HasBody, HasDecision, HasPage}
use Rattle.rc_body.specs.Reading.{body_at, decision_at, page_at}
use Rattle.rc_body.proofs.ReadingLaws.{Reads-body, Reads-decision, Reads-page}
use Rattle.rc_body.specs.declared.entry.Entry.{Entry}
use Rattle.rc_body.specs.declared.decision.Decision.{Decision}
use Rattle.rc_record.specs.Heads.{LogHead}
use Rattle.rc_record.specs.Spelling.{head_bytes, record_bytes, HasHead, HasFullPage, HasRecord}
use Rattle.rc_record.specs.Reading.{head_at, is_filled, full_page_at, head_record_at, prepared_at, finished_at, promised_at, accepted_at, decided_at, kinds_at, record_at, decoded}
use Rattle.rc_record.specs.declared.record.Record.{Record}
use Rattle.rc_record.specs.declared.record.Record.TheVariants.{Head, Prepared, Finished, Promised, Accepted, Decided}
use Rattle.rc_record.proofs.HeadLaws.{Reads-head}

-- FIELDS
Reads-full_page : Reads page_bytes HasFullPage full_page_at
unfolding full_page_at
Reads-full_page =
    Reads-same page_bytes (λ page. HasPage page × (is_filled page ≡ true)) (tested_at is_filled page_at) page_bytes HasFullPage
    (Reads-tested page_bytes HasPage page_at is_filled Reads-page)
    (λ page fits. ((leb-true 1 (length page) fits.1, fits.0), refl)) (λ page fits. (fits.1, le-leb 1 (length page) fits.0))

abbrev TxBody : Type 0
TxBody = ℕ × List Entry

abbrev tx_body_bytes : TxBody → List ℕ
tx_body_bytes f = u32_bytes f.0 ++ body_bytes f.1

abbrev HasTxBody : TxBody → Type 0
HasTxBody f = IsTxNumber f.0 × HasBody f.1

Reads-tx_body : Reads tx_body_bytes HasTxBody (both_at tx_at body_at)
Reads-tx_body = Reads-both u32_bytes IsTxNumber tx_at body_bytes HasBody body_at Reads-tx Reads-body

abbrev TxBallot : Type 0
TxBallot = ℕ × ℕ

abbrev tx_ballot_bytes : TxBallot → List ℕ
tx_ballot_bytes f = u32_bytes f.0 ++ u32_bytes f.1

abbrev HasTxBallot : TxBallot → Type 0
HasTxBallot f = IsTxNumber f.0 × IsBallotNumber f.1

Reads-tx_ballot : Reads tx_ballot_bytes HasTxBallot (both_at tx_at ballot_at)
Reads-tx_ballot = Reads-both u32_bytes IsTxNumber tx_at u32_bytes IsBallotNumber ballot_at Reads-tx Reads-ballot

abbrev BallotDecision : Type 0
BallotDecision = TxBallot × Decision

abbrev ballot_decision_bytes : BallotDecision → List ℕ
ballot_decision_bytes f = tx_ballot_bytes f.0 ++ decision_bytes f.1

abbrev HasBallotDecision : BallotDecision → Type 0
HasBallotDecision f = HasTxBallot f.0 × HasDecision f.1

Reads-ballot_decision : Reads ballot_decision_bytes HasBallotDecision (both_at (both_at tx_at ballot_at) decision_at)
Reads-ballot_decision = Reads-both tx_ballot_bytes HasTxBallot (both_at tx_at ballot_at) decision_bytes HasDecision decision_at Reads-tx_ballot Reads-decision

-- KINDS
-- the kind of a record, and its fields
abbrev kind_of : Record → ℕ
kind_of (Head h) = 0
kind_of (Prepared t part) = 1
kind_of (Finished page) = 2
kind_of (Promised t b) = 3
kind_of (Accepted t b o) = 4
kind_of (Decided page) = 5

abbrev fields_of : Record → List ℕ
fields_of (Head h) = head_bytes h
fields_of (Prepared t part) = tx_body_bytes (t, part)
fields_of (Finished page) = page_bytes page
fields_of (Promised t b) = tx_ballot_bytes (t, b)
fields_of (Accepted t b o) = ballot_decision_bytes ((t, b), o)
fields_of (Decided page) = page_bytes page

spelled : (r : Record) → record_bytes r ≡ u8_bytes (kind_of r) ++ fields_of r
spelled (Head h) = refl
spelled (Prepared t part) = refl
spelled (Finished page) = refl
spelled (Promised t b) = refl
spelled (Accepted t b o) = refl
spelled (Decided page) = refl

takes-head_record : Takes kind_of fields_of HasRecord 0 head_record_at
unfolding head_record_at
takes-head_record = Takes-mapped kind_of fields_of HasRecord 0 head_bytes HasHead head_at Head Reads-head (λ f fits. (refl, fits, refl))

takes-prepared : Takes kind_of fields_of HasRecord 1 prepared_at
unfolding prepared_at
takes-prepared = Takes-mapped kind_of fields_of HasRecord 1 tx_body_bytes HasTxBody (both_at tx_at body_at) (λ (f : TxBody). Prepared f.0 f.1) Reads-tx_body (λ f fits. (refl, fits, refl))

takes-finished : Takes kind_of fields_of HasRecord 2 finished_at
unfolding finished_at
takes-finished = Takes-mapped kind_of fields_of HasRecord 2 page_bytes HasFullPage full_page_at Finished Reads-full_page (λ f fits. (refl, fits, refl))

takes-promised : Takes kind_of fields_of HasRecord 3 promised_at
unfolding promised_at
takes-promised = Takes-mapped kind_of fields_of HasRecord 3 tx_ballot_bytes HasTxBallot (both_at tx_at ballot_at) (λ (f : TxBallot). Promised f.0 f.1) Reads-tx_ballot (λ f fits. (refl, fits, refl))

takes-accepted : Takes kind_of fields_of HasRecord 4 accepted_at
unfolding accepted_at
takes-accepted = Takes-mapped kind_of fields_of HasRecord 4 ballot_decision_bytes HasBallotDecision (both_at (both_at tx_at ballot_at) decision_at) (λ (f : BallotDecision). Accepted f.0.0 f.0.1 f.1) Reads-ballot_decision (λ f fits. (refl, (fits.0.0, fits.0.1, fits.1), refl))

takes-decided : Takes kind_of fields_of HasRecord 5 decided_at
unfolding decided_at
takes-decided = Takes-mapped kind_of fields_of HasRecord 5 page_bytes HasFullPage full_page_at Decided Reads-full_page (λ f fits. (refl, fits, refl))

takes-kinds : Picks kind_of fields_of HasRecord 0 kinds_at
takes-kinds =
    Picks-more kind_of fields_of HasRecord 0 head_record_at _ takes-head_record
    (Picks-more kind_of fields_of HasRecord 1 prepared_at _ takes-prepared
    (Picks-more kind_of fields_of HasRecord 2 finished_at _ takes-finished
    (Picks-more kind_of fields_of HasRecord 3 promised_at _ takes-promised
    (Picks-more kind_of fields_of HasRecord 4 accepted_at _ takes-accepted
    (Picks-more kind_of fields_of HasRecord 5 decided_at _ takes-decided
    (Picks-end kind_of fields_of HasRecord 6))))))

again : (r : Record) (rest : List ℕ) → HasRecord r → pick kinds_at (kind_of r) (fields_of r ++ rest) ≡ Some (r, rest)
unfolding pick head_record_at prepared_at finished_at promised_at accepted_at decided_at
again (Head h) rest fits = mapped_again head_bytes HasHead head_at Head Reads-head h rest fits
again (Prepared t part) rest fits = mapped_again tx_body_bytes HasTxBody (both_at tx_at body_at) (λ (f : TxBody). Prepared f.0 f.1) Reads-tx_body (t, part) rest fits
again (Finished page) rest fits = mapped_again page_bytes HasFullPage full_page_at Finished Reads-full_page page rest fits
again (Promised t b) rest fits = mapped_again tx_ballot_bytes HasTxBallot (both_at tx_at ballot_at) (λ (f : TxBallot). Promised f.0 f.1) Reads-tx_ballot (t, b) rest fits
again (Accepted t b o) rest fits = mapped_again ballot_decision_bytes HasBallotDecision (both_at (both_at tx_at ballot_at) decision_at) (λ (f : BallotDecision). Accepted f.0.0 f.0.1 f.1) Reads-ballot_decision ((t, b), o) rest ((fits.0, fits.1), fits.2)
again (Decided page) rest fits = mapped_again page_bytes HasFullPage full_page_at Decided Reads-full_page page rest fits

pub Reads-record : Reads record_bytes HasRecord record_at
unfolding record_at
Reads-record =
    Reads-same (λ r. u8_bytes (kind_of r) ++ fields_of r) HasRecord (tagged_at (pick kinds_at)) record_bytes HasRecord
    (Reads-tagged kind_of fields_of HasRecord (pick kinds_at) (Chooses-pick kind_of fields_of HasRecord kinds_at takes-kinds again))
    (λ r fits. (fits, spelled r)) (λ r fits. fits)

pub Reads-decoded : ReadsAll record_bytes HasRecord decoded
unfolding decoded
Reads-decoded = Reads-all record_bytes HasRecord record_at Reads-record

-- a kind that is none of the six has no records
pub no_kind : (kind : ℕ) (bytes : List ℕ) → kind ≢ 0 → kind ≢ 1 → kind ≢ 2 → kind ≢ 3 → kind ≢ 4 → kind ≢ 5 → pick kinds_at kind bytes ≡ None
unfolding pick
no_kind zero bytes n0 n1 n2 n3 n4 n5 = absurd (n0 refl)
no_kind (suc zero) bytes n0 n1 n2 n3 n4 n5 = absurd (n1 refl)
no_kind (suc (suc zero)) bytes n0 n1 n2 n3 n4 n5 = absurd (n2 refl)
no_kind (suc (suc (suc zero))) bytes n0 n1 n2 n3 n4 n5 = absurd (n3 refl)
no_kind (suc (suc (suc (suc zero)))) bytes n0 n1 n2 n3 n4 n5 = absurd (n4 refl)
no_kind (suc (suc (suc (suc (suc zero))))) bytes n0 n1 n2 n3 n4 n5 = absurd (n5 refl)
no_kind (suc (suc (suc (suc (suc (suc k)))))) bytes n0 n1 n2 n3 n4 n5 = refl
