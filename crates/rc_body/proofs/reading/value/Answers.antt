use Rattle.std.proofs.Common.{sym, ap, ◌∙◌}
use Rattle.rc_ids.specs.Texts.{IsValue}
use Rattle.rc_fields.specs.Spelling.{val_bytes}
use Rattle.rc_fields.specs.Names.{value_at}
use Rattle.rc_fields.proofs.FormatLaws.{Finds-some, Finds-none}
use Rattle.rc_fields.proofs.NameLaws.{Reads-value}
use Rattle.rc_body.proofs.reading.value.Goals as goal

pub returns-in-Ok-clause-finds : goal.returns-in-Ok-clause-finds
returns-in-Ok-clause-finds c =
    Finds-some val_bytes IsValue value_at Reads-value _ _ _ c.rest.ensures.bytes (ap value_at (sym (c.new-ahead.ensures ∙ c.rest.ensures.rest)) ∙ c.in-Ok.ensures)

pub returns-in-Err-NotThere-clause-finds : goal.returns-in-Err-NotThere-clause-finds
returns-in-Err-NotThere-clause-finds c =
    Finds-none val_bytes IsValue value_at Reads-value _ (ap value_at (sym (c.new-ahead.ensures ∙ c.rest.ensures.rest)) ∙ (rw c.in-Err-NotThere.field-0-is at c.in-Err-NotThere.ensures))
