use Rattle.std.proofs.Common.{sym, ap, ◌∙◌}
use Rattle.rc_fields.proofs.FormatLaws.{Finds-some, Finds-none}
use Rattle.rc_body.specs.Spelling.{decision_bytes, HasDecision}
use Rattle.rc_body.specs.Reading.{decision_at}
use Rattle.rc_body.proofs.ReadingLaws.{Reads-decision}
use Rattle.rc_body.proofs.reading.decision.Goals as goal

pub returns-in-Ok-clause-finds : goal.returns-in-Ok-clause-finds
returns-in-Ok-clause-finds c =
    Finds-some decision_bytes HasDecision decision_at Reads-decision _ _ _ c.rest.ensures.bytes (ap decision_at (sym (c.new-ahead.ensures ∙ c.rest.ensures.rest)) ∙ c.in-Ok.ensures)

pub returns-in-Err-NotThere-clause-finds : goal.returns-in-Err-NotThere-clause-finds
returns-in-Err-NotThere-clause-finds c =
    Finds-none decision_bytes HasDecision decision_at Reads-decision _ (ap decision_at (sym (c.new-ahead.ensures ∙ c.rest.ensures.rest)) ∙ (rw c.in-Err-NotThere.field-0-is at c.in-Err-NotThere.ensures))
