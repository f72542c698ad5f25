use Rattle.std.proofs.Common.{sym, ◌∙◌, ◌≢◌}
use Rattle.rc_ids.specs.declared.fault.TextFault.TheVariants.{NoMemory}
use Rattle.rc_fields.proofs.NameLaws.{is_value-at_fault}
use Rattle.rc_body.proofs.unread.value_of.Goals as goal

pub returns-in-Err-BadLength-clause-err : goal.returns-in-Err-BadLength-clause-err
returns-in-Err-BadLength-clause-err c = λ is.
    let other : c.in-Err-BadLength.field-0 ≢ NoMemory = λ e. absurd (cc (c.in-Err-BadLength.field-0-is, e)) in
    is_value-at_fault c.args.bytes.now c.in-Err-BadLength.field-0 (sym c.is_gone.ensures ∙ c.if-is_gone.false) (c.in-Err-BadLength.ensures.err other)

pub returns-in-Err-BadByte-clause-err : goal.returns-in-Err-BadByte-clause-err
returns-in-Err-BadByte-clause-err c = λ is.
    let other : c.in-Err-BadByte.field-0 ≢ NoMemory = λ e. absurd (cc (c.in-Err-BadByte.field-0-is, e)) in
    is_value-at_fault c.args.bytes.now c.in-Err-BadByte.field-0 (sym c.is_gone.ensures ∙ c.if-is_gone.false) (c.in-Err-BadByte.ensures.err other)
