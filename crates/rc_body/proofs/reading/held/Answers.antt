use Rattle.std.proofs.Common.{sym, ap, ◌∙◌}
use Rattle.rc_fields.proofs.FormatLaws.{Finds-some, Finds-none}
use Rattle.rc_body.specs.Spelling.{held_bytes, HasHeld}
use Rattle.rc_body.specs.Reading.{held_at}
use Rattle.rc_body.proofs.ReadingLaws.{Reads-held}
use Rattle.rc_body.proofs.reading.held.Goals as goal

pub returns-in-Ok-clause-finds : goal.returns-in-Ok-clause-finds
returns-in-Ok-clause-finds c =
    Finds-some held_bytes HasHeld held_at Reads-held _ _ _ c.rest.ensures.bytes (ap held_at (sym (c.new-ahead.ensures ∙ c.rest.ensures.rest)) ∙ c.in-Ok.ensures)

pub returns-in-Err-NotThere-clause-finds : goal.returns-in-Err-NotThere-clause-finds
returns-in-Err-NotThere-clause-finds c =
    Finds-none held_bytes HasHeld held_at Reads-held _ (ap held_at (sym (c.new-ahead.ensures ∙ c.rest.ensures.rest)) ∙ (rw c.in-Err-NotThere.field-0-is at c.in-Err-NotThere.ensures))
