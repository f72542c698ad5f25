use Rattle.rc_fields.proofs.FormatLaws.{Kind-from_reads}
use Rattle.rc_body.specs.Spelling.{held_bytes, entry_bytes, body_bytes, decision_bytes, reason_bytes, report_bytes, page_bytes, HasHeld, HasEntry, HasBody, HasDecision, HasReason, HasReport, HasPage}
use Rattle.rc_body.specs.Reading.{held_at, entry_at, body_at, decision_at, reason_at, report_at, page_at}
use Rattle.rc_body.proofs.ReadingLaws.{Reads-held, Reads-entry, Reads-body, Reads-decision, Reads-reason, Reads-report, Reads-page}
use Rattle.rc_body.proofs.laws.body_laws.Goals as goal

pub returns : goal.returns
returns c = record {
  held = Kind-from_reads held_bytes HasHeld held_at Reads-held;
  entry = Kind-from_reads entry_bytes HasEntry entry_at Reads-entry;
  body = Kind-from_reads body_bytes HasBody body_at Reads-body;
  decision = Kind-from_reads decision_bytes HasDecision decision_at Reads-decision;
  reason = Kind-from_reads reason_bytes HasReason reason_at Reads-reason;
  report = Kind-from_reads report_bytes HasReport report_at Reads-report;
  page = Kind-from_reads page_bytes HasPage page_at Reads-page;
}
