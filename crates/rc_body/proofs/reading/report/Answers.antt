use Rattle.std.proofs.Common.{sym, ap, ◌∙◌}
use Rattle.rc_fields.proofs.FormatLaws.{Finds-some, Finds-none}
use Rattle.rc_body.specs.Spelling.{report_bytes, HasReport}
use Rattle.rc_body.specs.Reading.{report_at}
use Rattle.rc_body.proofs.ReadingLaws.{Reads-report}
use Rattle.rc_body.proofs.reading.report.Goals as goal

pub returns-in-Ok-clause-finds : goal.returns-in-Ok-clause-finds
returns-in-Ok-clause-finds c =
    Finds-some report_bytes HasReport report_at Reads-report _ _ _ c.rest.ensures.bytes (ap report_at (sym (c.new-ahead.ensures ∙ c.rest.ensures.rest)) ∙ c.in-Ok.ensures)

pub returns-in-Err-NotThere-clause-finds : goal.returns-in-Err-NotThere-clause-finds
returns-in-Err-NotThere-clause-finds c =
    Finds-none report_bytes HasReport report_at Reads-report _ (ap report_at (sym (c.new-ahead.ensures ∙ c.rest.ensures.rest)) ∙ (rw c.in-Err-NotThere.field-0-is at c.in-Err-NotThere.ensures))
