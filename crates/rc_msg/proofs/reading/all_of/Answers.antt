use Rattle.std.proofs.Common.{cond, None, ap, ◌∙◌}
use Rattle.rc_fields.specs.Whole.{all_of}
use Rattle.rc_fields.proofs.WholeLaws.{all_of-found}
use Rattle.rc_msg.specs.Reading.{envelope_at, envelope_in}
use Rattle.rc_msg.proofs.reading.all_of.Goals as goal

pub returns : goal.returns
unfolding envelope_in
returns c =
    c.at_end.ensures ∙ ap (λ b. cond b c.in_ok-found.found None) c.is_end.ensures
    ∙ all_of-found envelope_at c.new-fields.result c.envelope.new.fields c.in_ok-found.found c.in_ok-found.ensures
    ∙ ap (all_of envelope_at) c.new-fields.ensures
