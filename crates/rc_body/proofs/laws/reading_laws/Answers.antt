use Rattle.rc_body.proofs.ReadingLaws.{Reads-held, Reads-entry, Reads-body, Reads-decision, Reads-reason, Reads-report, Reads-page}
use Rattle.rc_body.proofs.laws.reading_laws.Goals as goal

pub returns : goal.returns
returns c = record {
  held = Reads-held;
  entry = Reads-entry;
  body = Reads-body;
  decision = Reads-decision;
  reason = Reads-reason;
  report = Reads-report;
  page = Reads-page;
}
