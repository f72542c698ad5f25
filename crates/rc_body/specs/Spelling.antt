-- The bytes of bodies, decisions, reasons, reports and pages, and which of them have a spelling.
use Rattle.std.specs.Prelude.{ℕ, List, ◌++◌, length, Option, Some, None, IfSome}
use Rattle.std.specs.List.{flat_map, AllByRecursion}
use Rattle.rc_ids.specs.Texts.{IsKey, IsValue}
use Rattle.rc_fields.specs.Ranges.{IsTxNumber, IsBallotNumber, IsVersionNumber}
use Rattle.rc_fields.specs.Spelling.{u8_bytes, u32_bytes, u64_bytes, key_bytes, val_bytes}
use Rattle.rc_body.specs.Bodies.{IsBody}
use Rattle.rc_body.specs.Pages.{IsPage}
use Rattle.rc_body.specs.declared.entry.Entry.{Entry}
use Rattle.rc_body.specs.declared.decision.Decision.{Decision}
use Rattle.rc_body.specs.declared.decision.Decision.TheVariants.{Commit, Abort}
use Rattle.rc_body.specs.declared.reason.Reason.{Reason}
use Rattle.rc_body.specs.declared.reason.Reason.TheVariants.{Locked, Lost, Stale, Promised}

-- 0 for none; 1, and the value
abbrev pub held_bytes : Option (List ℕ) → List ℕ
held_bytes None = u8_bytes 0
held_bytes (Some value) = u8_bytes 1 ++ val_bytes value

abbrev pub entry_bytes : Entry → List ℕ
entry_bytes e = key_bytes e.key ++ u64_bytes e.version ++ held_bytes e.write

-- the number of entries, and the entries
abbrev pub body_bytes : List Entry → List ℕ
body_bytes body = u8_bytes (length body) ++ flat_map entry_bytes body

abbrev pub decision_bytes : Decision → List ℕ
decision_bytes Abort = u8_bytes 0
decision_bytes (Commit body) = u8_bytes 1 ++ body_bytes body

abbrev pub reason_bytes : Reason → List ℕ
reason_bytes (Locked k t) = u8_bytes 1 ++ key_bytes k ++ u32_bytes t
reason_bytes (Lost k) = u8_bytes 2 ++ key_bytes k
reason_bytes (Stale k v) = u8_bytes 3 ++ key_bytes k ++ u64_bytes v
reason_bytes (Promised b) = u8_bytes 4 ++ u32_bytes b

-- 0 for none; 1, the ballot and the decision that was accepted there
abbrev pub report_bytes : Option (ℕ × Decision) → List ℕ
report_bytes None = u8_bytes 0
report_bytes (Some report) = u8_bytes 1 ++ u32_bytes report.0 ++ decision_bytes report.1

abbrev pub outcome_bytes : ℕ × Decision → List ℕ
outcome_bytes e = u32_bytes e.0 ++ decision_bytes e.1

-- the number of transactions, and each with its decision
abbrev pub page_bytes : List (ℕ × Decision) → List ℕ
page_bytes page = u8_bytes (length page) ++ flat_map outcome_bytes page

-- WHAT HAS A SPELLING
abbrev pub HasHeld : Option (List ℕ) → Type 0
HasHeld held = IfSome held IsValue

pub record HasEntry (e : Entry) : Type 0 where
  pub key : IsKey e.key
  pub version : IsVersionNumber e.version
  pub write : HasHeld e.write

pub record HasBody (body : List Entry) : Type 0 where
  pub allowed : IsBody body
  pub entries : AllByRecursion HasEntry body

abbrev pub HasDecision : Decision → Type 0
HasDecision Abort = Unit {0}
HasDecision (Commit body) = HasBody body

abbrev pub HasReason : Reason → Type 0
HasReason (Locked k t) = IsKey k × IsTxNumber t
HasReason (Lost k) = IsKey k
HasReason (Stale k v) = IsKey k × IsVersionNumber v
HasReason (Promised b) = IsBallotNumber b

abbrev pub HasReport : Option (ℕ × Decision) → Type 0
HasReport report = IfSome report (λ (r : ℕ × Decision). IsBallotNumber r.0 × HasDecision r.1)

abbrev pub HasOutcome : ℕ × Decision → Type 0
HasOutcome e = IsTxNumber e.0 × HasDecision e.1

pub record HasPage (page : List (ℕ × Decision)) : Type 0 where
  pub allowed : IsPage page
  pub outcomes : AllByRecursion HasOutcome page
