-- Bodies, decisions, reasons, reports and pages are read where their spelling stands first, and nowhere else.
use Rattle.std.proofs.Common.{◌≡◌, ℕ, ◌<◌, Bool, true, false, not, ◌&&◌, List, [], ◌∷◌, ◌++◌, length, Option, Some, None, refl, ap, append_assoc, arith}
use Rattle.std.specs.Prelude.{IfSome, nat_le}
use Rattle.std.specs.List.{list_any, AllByRecursion}
use Rattle.std.proofs.lemmas.Bool.{leb-true, le-leb, and_parts, and_from}
use Rattle.rc_ids.specs.Texts.{IsKey, IsValue}
use Rattle.rc_fields.specs.Ranges.{IsTxNumber, IsBallotNumber, IsVersionNumber}
use Rattle.rc_fields.specs.Spelling.{u8_bytes, u32_bytes, u64_bytes, key_bytes, val_bytes}
use Rattle.rc_fields.specs.Formats.{Reader, Reads, nothing_at, both_at, mapped_at, tested_at, tagged_at, pick, none_at, option_bytes, option_at, list_bytes, list_at}
use Rattle.rc_fields.specs.Names.{key_at, value_at, tx_at, ballot_at, version_at}
use Rattle.rc_fields.proofs.FormatLaws.{Reads-nothing, Reads-mapped, Reads-same, Reads-both, Reads-tested, Reads-tagged, Picks, Picks-end, Picks-more, Takes-none, Takes-mapped, mapped_again, Chooses-pick, Reads-option, Reads-list}
use Rattle.rc_fields.proofs.NameLaws.{Reads-key, Reads-value, Reads-tx, Reads-ballot, Reads-version}
use Rattle.rc_body.specs.declared.entry.Entry.{Entry}
use Rattle.rc_body.specs.declared.decision.Decision.{Decision}
use Rattle.rc_body.specs.declared.decision.Decision.TheVariants.{Commit, Abort}
use Rattle.rc_body.specs.declared.reason.Reason.{Reason}
use Rattle.rc_body.specs.declared.reason.Reason.TheVariants.{Locked, Lost, Stale, Promised}
use Rattle.rc_body.specs.Entries.{wears_out}
use Rattle.rc_body.specs.Bodies.{has_key, KeysDiffer, IsBody}
use Rattle.rc_body.specs.Pages.{has_tx, TxsDiffer, IsPage}
use Rattle.rc_body.specs.Spelling.{held_bytes, entry_bytes, body_bytes, decision_bytes, reason_bytes, report_bytes, outcome_bytes, page_bytes, HasHeld, HasEntry, HasBody, HasDecision, HasReason, HasReport, HasOutcome, HasPage}
use Rattle.rc_body.specs.Reading.{held_at, entry_from, entry_at, keys_differ, is_body, body_at, abort, decision_at, locked, stale, reason_at, report_at, txs_differ, is_page, page_at}

-- HELD
held_spelled : (o : Option (List ℕ)) → held_bytes o ≡ option_bytes val_bytes o
held_spelled None = refl
held_spelled (Some v) = refl

pub Reads-held : Reads held_bytes HasHeld held_at
unfolding held_at
Reads-held =
    Reads-same (option_bytes val_bytes) (λ o. IfSome o IsValue) (option_at value_at) held_bytes HasHeld (Reads-option val_bytes IsValue value_at Reads-value)
    (λ o fits. (fits, held_spelled o)) (λ o fits. fits)

-- ENTRIES
abbrev Parts : Type 0
Parts = List ℕ × (ℕ × Option (List ℕ))

abbrev parts_bytes : Parts → List ℕ
parts_bytes p = key_bytes p.0 ++ (u64_bytes p.1.0 ++ held_bytes p.1.1)

abbrev HasParts : Parts → Type 0
HasParts p = IsKey p.0 × (IsVersionNumber p.1.0 × HasHeld p.1.1)

abbrev parts_of : Entry → Parts
parts_of e = (e.key, (e.version, e.write))

entry_spelled : (p : Parts) → entry_bytes (entry_from p) ≡ parts_bytes p
entry_spelled p = append_assoc (key_bytes p.0) (u64_bytes p.1.0) (held_bytes p.1.1)

pub Reads-entry : Reads entry_bytes HasEntry entry_at
unfolding entry_at
Reads-entry =
    Reads-mapped parts_bytes HasParts (both_at key_at (both_at version_at held_at)) entry_from parts_of entry_bytes HasEntry
    (Reads-both key_bytes IsKey key_at (λ (q : ℕ × Option (List ℕ)). u64_bytes q.0 ++ held_bytes q.1) (λ (q : ℕ × Option (List ℕ)). IsVersionNumber q.0 × HasHeld q.1)
    (both_at version_at held_at) Reads-key (Reads-both u64_bytes IsVersionNumber version_at held_bytes HasHeld held_at Reads-version Reads-held))
    (λ p fits. (record { key = fits.0; version = fits.1.0; write = fits.1.1 }, entry_spelled p))
    (λ e fits. ((fits.key, (fits.version, fits.write)), refl))

-- BODIES
false_from_not : (b : Bool) → not b ≡ true → b ≡ false
false_from_not true e = absurd cc
false_from_not false e = refl

not_true : (b : Bool) → b ≡ false → not b ≡ true
not_true b e = ap not e

KeysDiffer-from_test : (body : List Entry) → keys_differ body ≡ true → KeysDiffer body
KeysDiffer-from_test [] e = tt
KeysDiffer-from_test (x ∷ xs) e =
    let h = and_parts (not (has_key x.key xs)) (keys_differ xs) e in
    (false_from_not (has_key x.key xs) h.0, KeysDiffer-from_test xs h.1)

keys_differ-holds : (body : List Entry) → KeysDiffer body → keys_differ body ≡ true
keys_differ-holds [] h = refl
keys_differ-holds (x ∷ xs) h = and_from (not (has_key x.key xs)) (keys_differ xs) (not_true (has_key x.key xs) h.0) (keys_differ-holds xs h.1)

pub IsBody-from_test : (body : List Entry) → is_body body ≡ true → IsBody body
IsBody-from_test body e =
    let a = and_parts (nat_le (length body) 32 && not (list_any wears_out body)) (keys_differ body) e in
    let b = and_parts (nat_le (length body) 32) (not (list_any wears_out body)) a.0 in
    record {
      few = leb-true (length body) 32 b.0;
      lasting = false_from_not (list_any wears_out body) b.1;
      apart = KeysDiffer-from_test body a.1;
    }

pub is_body-holds : (body : List Entry) → IsBody body → is_body body ≡ true
is_body-holds body is =
    and_from (nat_le (length body) 32 && not (list_any wears_out body)) (keys_differ body)
    (and_from (nat_le (length body) 32) (not (list_any wears_out body)) (le-leb (length body) 32 is.few) (not_true (list_any wears_out body) is.lasting))
    (keys_differ-holds body is.apart)

abbrev AreEntries : List Entry → Type 0
AreEntries es = (length es < 256) × AllByRecursion HasEntry es

pub Reads-body : Reads body_bytes HasBody body_at
unfolding body_at
Reads-body =
    Reads-same (list_bytes entry_bytes) (λ es. AreEntries es × (is_body es ≡ true)) (tested_at is_body (list_at entry_at)) body_bytes HasBody
    (Reads-tested (list_bytes entry_bytes) AreEntries (list_at entry_at) is_body (Reads-list entry_bytes HasEntry entry_at Reads-entry))
    (λ body fits. (record { allowed = IsBody-from_test body fits.1; entries = fits.0.1 }, refl))
    (λ body fits. ((omega (arith, fits.allowed.few), fits.entries), is_body-holds body fits.allowed))

-- DECISIONS
abbrev decision_tag : Decision → ℕ
decision_tag Abort = 0
decision_tag (Commit body) = 1

abbrev behind_decision : Decision → List ℕ
behind_decision Abort = []
behind_decision (Commit body) = body_bytes body

abbrev decision_choices : List (Reader Decision)
decision_choices = mapped_at abort nothing_at ∷ mapped_at Commit body_at ∷ []

decision_again : (d : Decision) (rest : List ℕ) → HasDecision d → pick decision_choices (decision_tag d) (behind_decision d ++ rest) ≡ Some (d, rest)
unfolding pick
decision_again Abort rest fits = mapped_again (λ (u : Unit {0}). []) (λ u. Unit {0}) nothing_at abort Reads-nothing tt rest tt
decision_again (Commit body) rest fits = mapped_again body_bytes HasBody body_at Commit Reads-body body rest fits

decision_picks : Picks decision_tag behind_decision HasDecision 0 decision_choices
decision_picks =
    Picks-more decision_tag behind_decision HasDecision 0 _ _
    (Takes-mapped decision_tag behind_decision HasDecision 0 (λ (u : Unit {0}). []) (λ u. Unit {0}) nothing_at abort Reads-nothing (λ u fits. (refl, tt, refl)))
    (Picks-more decision_tag behind_decision HasDecision 1 _ _
    (Takes-mapped decision_tag behind_decision HasDecision 1 body_bytes HasBody body_at Commit Reads-body (λ body fits. (refl, fits, refl)))
    (Picks-end decision_tag behind_decision HasDecision 2))

decision_spelled : (d : Decision) → decision_bytes d ≡ u8_bytes (decision_tag d) ++ behind_decision d
decision_spelled Abort = refl
decision_spelled (Commit body) = refl

pub Reads-decision : Reads decision_bytes HasDecision decision_at
unfolding decision_at
Reads-decision =
    Reads-same (λ d. u8_bytes (decision_tag d) ++ behind_decision d) HasDecision (tagged_at (pick decision_choices)) decision_bytes HasDecision
    (Reads-tagged decision_tag behind_decision HasDecision (pick decision_choices) (Chooses-pick decision_tag behind_decision HasDecision decision_choices decision_picks decision_again))
    (λ d fits. (fits, decision_spelled d)) (λ d fits. fits)

-- REASONS
abbrev reason_tag : Reason → ℕ
reason_tag (Locked k t) = 1
reason_tag (Lost k) = 2
reason_tag (Stale k v) = 3
reason_tag (Promised b) = 4

abbrev behind_reason : Reason → List ℕ
behind_reason (Locked k t) = key_bytes k ++ u32_bytes t
behind_reason (Lost k) = key_bytes k
behind_reason (Stale k v) = key_bytes k ++ u64_bytes v
behind_reason (Promised b) = u32_bytes b

abbrev reason_choices : List (Reader Reason)
reason_choices =
    none_at ∷ mapped_at locked (both_at key_at tx_at) ∷ mapped_at Lost key_at ∷ mapped_at stale (both_at key_at version_at) ∷ mapped_at Promised ballot_at ∷ []

abbrev locked_bytes : List ℕ × ℕ → List ℕ
locked_bytes r = key_bytes r.0 ++ u32_bytes r.1

abbrev HasLocked : List ℕ × ℕ → Type 0
HasLocked r = IsKey r.0 × IsTxNumber r.1

Reads-locked : Reads locked_bytes HasLocked (both_at key_at tx_at)
Reads-locked = Reads-both key_bytes IsKey key_at u32_bytes IsTxNumber tx_at Reads-key Reads-tx

abbrev stale_bytes : List ℕ × ℕ → List ℕ
stale_bytes r = key_bytes r.0 ++ u64_bytes r.1

abbrev HasStale : List ℕ × ℕ → Type 0
HasStale r = IsKey r.0 × IsVersionNumber r.1

Reads-stale : Reads stale_bytes HasStale (both_at key_at version_at)
Reads-stale = Reads-both key_bytes IsKey key_at u64_bytes IsVersionNumber version_at Reads-key Reads-version

reason_again : (r : Reason) (rest : List ℕ) → HasReason r → pick reason_choices (reason_tag r) (behind_reason r ++ rest) ≡ Some (r, rest)
unfolding pick
reason_again (Locked k t) rest fits = mapped_again locked_bytes HasLocked (both_at key_at tx_at) locked Reads-locked (k, t) rest fits
reason_again (Lost k) rest fits = mapped_again key_bytes IsKey key_at Lost Reads-key k rest fits
reason_again (Stale k v) rest fits = mapped_again stale_bytes HasStale (both_at key_at version_at) stale Reads-stale (k, v) rest fits
reason_again (Promised b) rest fits = mapped_again u32_bytes IsBallotNumber ballot_at Promised Reads-ballot b rest fits

reason_picks : Picks reason_tag behind_reason HasReason 0 reason_choices
reason_picks =
    Picks-more reason_tag behind_reason HasReason 0 _ _ (Takes-none reason_tag behind_reason HasReason 0)
    (Picks-more reason_tag behind_reason HasReason 1 _ _
    (Takes-mapped reason_tag behind_reason HasReason 1 locked_bytes HasLocked (both_at key_at tx_at) locked Reads-locked (λ r fits. (refl, fits, refl)))
    (Picks-more reason_tag behind_reason HasReason 2 _ _
    (Takes-mapped reason_tag behind_reason HasReason 2 key_bytes IsKey key_at Lost Reads-key (λ k fits. (refl, fits, refl)))
    (Picks-more reason_tag behind_reason HasReason 3 _ _
    (Takes-mapped reason_tag behind_reason HasReason 3 stale_bytes HasStale (both_at key_at version_at) stale Reads-stale (λ r fits. (refl, fits, refl)))
    (Picks-more reason_tag behind_reason HasReason 4 _ _
    (Takes-mapped reason_tag behind_reason HasReason 4 u32_bytes IsBallotNumber ballot_at Promised Reads-ballot (λ b fits. (refl, fits, refl)))
    (Picks-end reason_tag behind_reason HasReason 5)))))

reason_spelled : (r : Reason) → reason_bytes r ≡ u8_bytes (reason_tag r) ++ behind_reason r
reason_spelled (Locked k t) = refl
reason_spelled (Lost k) = refl
reason_spelled (Stale k v) = refl
reason_spelled (Promised b) = refl

pub Reads-reason : Reads reason_bytes HasReason reason_at
unfolding reason_at
Reads-reason =
    Reads-same (λ r. u8_bytes (reason_tag r) ++ behind_reason r) HasReason (tagged_at (pick reason_choices)) reason_bytes HasReason
    (Reads-tagged reason_tag behind_reason HasReason (pick reason_choices) (Chooses-pick reason_tag behind_reason HasReason reason_choices reason_picks reason_again))
    (λ r fits. (fits, reason_spelled r)) (λ r fits. fits)

-- REPORTS
abbrev vote_bytes : ℕ × Decision → List ℕ
vote_bytes r = u32_bytes r.0 ++ decision_bytes r.1

abbrev HasVote : ℕ × Decision → Type 0
HasVote r = IsBallotNumber r.0 × HasDecision r.1

report_spelled : (o : Option (ℕ × Decision)) → report_bytes o ≡ option_bytes vote_bytes o
report_spelled None = refl
report_spelled (Some r) = refl

pub Reads-report : Reads report_bytes HasReport report_at
unfolding report_at
Reads-report =
    Reads-same (option_bytes vote_bytes) (λ o. IfSome o HasVote) (option_at (both_at ballot_at decision_at)) report_bytes HasReport
    (Reads-option vote_bytes HasVote (both_at ballot_at decision_at)
    (Reads-both u32_bytes IsBallotNumber ballot_at decision_bytes HasDecision decision_at Reads-ballot Reads-decision))
    (λ o fits. (fits, report_spelled o)) (λ o fits. fits)

-- PAGES
TxsDiffer-from_test : (page : List (ℕ × Decision)) → txs_differ page ≡ true → TxsDiffer page
TxsDiffer-from_test [] e = tt
TxsDiffer-from_test (x ∷ xs) e =
    let h = and_parts (not (has_tx x.0 xs)) (txs_differ xs) e in
    (false_from_not (has_tx x.0 xs) h.0, TxsDiffer-from_test xs h.1)

txs_differ-holds : (page : List (ℕ × Decision)) → TxsDiffer page → txs_differ page ≡ true
txs_differ-holds [] h = refl
txs_differ-holds (x ∷ xs) h = and_from (not (has_tx x.0 xs)) (txs_differ xs) (not_true (has_tx x.0 xs) h.0) (txs_differ-holds xs h.1)

pub IsPage-from_test : (page : List (ℕ × Decision)) → is_page page ≡ true → IsPage page
IsPage-from_test page e =
    let a = and_parts (nat_le (length page) 64) (txs_differ page) e in
    record { few = leb-true (length page) 64 a.0; apart = TxsDiffer-from_test page a.1 }

pub is_page-holds : (page : List (ℕ × Decision)) → IsPage page → is_page page ≡ true
is_page-holds page is = and_from (nat_le (length page) 64) (txs_differ page) (le-leb (length page) 64 is.few) (txs_differ-holds page is.apart)

abbrev AreOutcomes : List (ℕ × Decision) → Type 0
AreOutcomes page = (length page < 256) × AllByRecursion HasOutcome page

pub Reads-outcome : Reads outcome_bytes HasOutcome (both_at tx_at decision_at)
Reads-outcome = Reads-both u32_bytes IsTxNumber tx_at decision_bytes HasDecision decision_at Reads-tx Reads-decision

pub Reads-page : Reads page_bytes HasPage page_at
unfolding page_at
Reads-page =
    Reads-same (list_bytes outcome_bytes) (λ page. AreOutcomes page × (is_page page ≡ true)) (tested_at is_page (list_at (both_at tx_at decision_at))) page_bytes HasPage
    (Reads-tested (list_bytes outcome_bytes) AreOutcomes (list_at (both_at tx_at decision_at)) is_page (Reads-list outcome_bytes HasOutcome (both_at tx_at decision_at) Reads-outcome))
    (λ page fits. (record { allowed = IsPage-from_test page fits.1; outcomes = fits.0.1 }, refl))
    (λ page fits. ((omega (arith, fits.allowed.few), fits.outcomes), is_page-holds page fits.allowed))
