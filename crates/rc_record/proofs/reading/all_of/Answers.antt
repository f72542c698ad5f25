use Rattle.std.proofs.Common.{◌≡◌, ℕ, cond, List, Option, None, Some, Result, Ok, Err, sym, subst, ap, ◌∙◌}
use Rattle.std.specs.Prelude.{MatchResult}
use Rattle.rc_fields.specs.Formats.{Gives, Tells, Fails}
use Rattle.rc_fields.specs.Whole.{all_of}
use Rattle.rc_fields.specs.declared.fault.ReadFault.{ReadFault}
use Rattle.rc_fields.specs.declared.fault.ReadFault.TheVariants.{NotThere}
use Rattle.rc_fields.proofs.WholeLaws.{all_of-found}
use Rattle.rc_record.specs.declared.record.Record.{Record}
use Rattle.rc_record.specs.Reading.{record_at, decoded}
use Rattle.rc_record.proofs.reading.all_of.Goals as goal

gives : (read : Result Record ReadFault) (found : Option Record) (rest : List ℕ) (told : Option (Record × List ℕ)) → Tells read rest told
    → MatchResult read (λ r. found ≡ Some r) (λ fault. (fault ≡ NotThere) × (found ≡ None)) → Gives found rest told
gives (Ok r) found rest told tells is = subst (λ (f : Option Record). Gives f rest told) (sym is) tells
gives (Err fault) found rest told tells is =
    subst (λ (f : Option Record). Gives f rest told) (sym is.1) (subst (λ (g : ReadFault). Fails g told) is.0 tells)

pub returns : goal.returns
unfolding decoded
returns c =
    c.at_end.ensures ∙ ap (λ b. cond b c.in_ok-found.found None) c.is_end.ensures
    ∙ all_of-found record_at c.new-fields.result c.read_record-read.new.fields c.in_ok-found.found
    (gives c.read_record-read.result c.in_ok-found.found c.read_record-read.new.fields (record_at c.new-fields.result) c.read_record-read.ensures
    c.in_ok-found.ensures)
    ∙ ap (all_of record_at) c.new-fields.ensures
