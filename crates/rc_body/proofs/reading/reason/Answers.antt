use Rattle.std.proofs.Common.{sym, ap, ◌∙◌}
use Rattle.rc_body.specs.Spelling.{reason_bytes, HasReason}
use Rattle.rc_body.specs.Reading.{reason_at}
use Rattle.rc_fields.proofs.FormatLaws.{Finds-some, Finds-none}
use Rattle.rc_body.proofs.ReadingLaws.{Reads-reason}
use Rattle.rc_body.proofs.reading.reason.Goals as goal

pub returns-in-Some-clause-finds : goal.returns-in-Some-clause-finds
returns-in-Some-clause-finds c =
    Finds-some reason_bytes HasReason reason_at Reads-reason _ _ _ c.rest.ensures.bytes
    (ap reason_at (sym (c.new-ahead.ensures ∙ c.rest.ensures.rest)) ∙ c.in-Some.ensures)

pub returns-in-None-clause-finds : goal.returns-in-None-clause-finds
returns-in-None-clause-finds c =
    Finds-none reason_bytes HasReason reason_at Reads-reason _ (ap reason_at (sym (c.new-ahead.ensures ∙ c.rest.ensures.rest)) ∙ c.in-None.ensures)
