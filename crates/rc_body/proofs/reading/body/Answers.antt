use Rattle.std.proofs.Common.{sym, ap, ◌∙◌}
use Rattle.rc_fields.proofs.FormatLaws.{Finds-some, Finds-none}
use Rattle.rc_body.specs.Spelling.{body_bytes, HasBody}
use Rattle.rc_body.specs.Reading.{body_at}
use Rattle.rc_body.proofs.ReadingLaws.{Reads-body}
use Rattle.rc_body.proofs.reading.body.Goals as goal

pub returns-in-Ok-clause-finds : goal.returns-in-Ok-clause-finds
returns-in-Ok-clause-finds c =
    Finds-some body_bytes HasBody body_at Reads-body _ _ _ c.rest.ensures.bytes (ap body_at (sym (c.new-ahead.ensures ∙ c.rest.ensures.rest)) ∙ c.in-Ok.ensures)

pub returns-in-Err-NotThere-clause-finds : goal.returns-in-Err-NotThere-clause-finds
returns-in-Err-NotThere-clause-finds c =
    Finds-none body_bytes HasBody body_at Reads-body _ (ap body_at (sym (c.new-ahead.ensures ∙ c.rest.ensures.rest)) ∙ (rw c.in-Err-NotThere.field-0-is at c.in-Err-NotThere.ensures))
