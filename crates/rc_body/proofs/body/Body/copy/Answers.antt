use Rattle.std.proofs.Common.{Some, [], ◌∷◌, ◌++◌, ap, sym, ◌∙◌}
use Rattle.rc_body.specs.Entries.{wears_out}
use Rattle.rc_body.specs.Bodies.{has_key}
use Rattle.rc_body.proofs.Places.{none_passes, take-one_more}
use Rattle.rc_body.proofs.BodyFacts.{KeysDiffer-before}
use Rattle.rc_body.proofs.body.Body.copy.Goals as goal

pub keep-requires-clause-absent : goal.keep-requires-clause-absent
keep-requires-clause-absent c =
    ap (has_key c.in_ok-to_entry.field-0.key) c.loop-index.invariant
    ∙ KeysDiffer-before c.args.self.now c.loop-index.index c.in_ok-to_entry.field-0 c.len-index-end.ensures.body.apart
    (c.entry.ensures ∙ ap Some (sym c.in_ok-to_entry.ensures))

pub keep-requires-clause-lasting : goal.keep-requires-clause-lasting
keep-requires-clause-lasting c =
    none_passes wears_out c.args.self.now c.loop-index.index c.in_ok-to_entry.field-0 c.len-index-end.ensures.body.lasting
    (c.entry.ensures ∙ ap Some (sym c.in_ok-to_entry.ensures))

pub loop-index-preserved : goal.loop-index-preserved
loop-index-preserved c =
    c.in_ok-keep.ensures.ok ∙ ap (λ xs. xs ++ (c.in_ok-to_entry.field-0 ∷ [])) c.loop-index.invariant
    ∙ sym (take-one_more c.args.self.now c.loop-index.index c.in_ok-to_entry.field-0
    (c.entry.ensures ∙ ap Some (sym c.in_ok-to_entry.ensures)))
