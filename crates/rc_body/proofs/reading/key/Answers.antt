use Rattle.std.proofs.Common.{sym, ap, ◌∙◌}
use Rattle.rc_ids.specs.Texts.{IsKey}
use Rattle.rc_fields.specs.Spelling.{key_bytes}
use Rattle.rc_fields.specs.Names.{key_at}
use Rattle.rc_fields.proofs.FormatLaws.{Finds-some, Finds-none}
use Rattle.rc_fields.proofs.NameLaws.{Reads-key}
use Rattle.rc_body.proofs.reading.key.Goals as goal

pub returns-in-Some-clause-finds : goal.returns-in-Some-clause-finds
returns-in-Some-clause-finds c =
    Finds-some key_bytes IsKey key_at Reads-key _ _ _ c.rest.ensures.bytes
    (ap key_at (sym (c.new-ahead.ensures ∙ c.rest.ensures.rest)) ∙ c.in-Some.ensures)

pub returns-in-None-clause-finds : goal.returns-in-None-clause-finds
returns-in-None-clause-finds c =
    Finds-none key_bytes IsKey key_at Reads-key _ (ap key_at (sym (c.new-ahead.ensures ∙ c.rest.ensures.rest)) ∙ c.in-None.ensures)
