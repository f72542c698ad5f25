use Rattle.std.proofs.Common.{sym, ap, ◌∙◌}
use Rattle.rc_fields.proofs.FormatLaws.{Finds-some, Finds-none}
use Rattle.rc_body.specs.Spelling.{page_bytes, HasPage}
use Rattle.rc_body.specs.Reading.{page_at}
use Rattle.rc_body.proofs.ReadingLaws.{Reads-page}
use Rattle.rc_body.proofs.reading.page.Goals as goal

pub returns-in-Ok-clause-finds : goal.returns-in-Ok-clause-finds
returns-in-Ok-clause-finds c =
    Finds-some page_bytes HasPage page_at Reads-page _ _ _ c.rest.ensures.bytes (ap page_at (sym (c.new-ahead.ensures ∙ c.rest.ensures.rest)) ∙ c.in-Ok.ensures)

pub returns-in-Err-NotThere-clause-finds : goal.returns-in-Err-NotThere-clause-finds
returns-in-Err-NotThere-clause-finds c =
    Finds-none page_bytes HasPage page_at Reads-page _ (ap page_at (sym (c.new-ahead.ensures ∙ c.rest.ensures.rest)) ∙ (rw c.in-Err-NotThere.field-0-is at c.in-Err-NotThere.ensures))
