use Rattle.std.proofs.Common.{ap, subst, sym, ◌∙◌}
use Rattle.rc_body.specs.Rows.{has_row, RowsDiffer}
use Rattle.rc_body.proofs.RowFacts.{RowsDiffer-push}
use Rattle.rc_body.proofs.rows.Rows.push.Goals as goal

pub invariant_of-self-2 : goal.invariant_of-self-2
invariant_of-self-2 c =
    subst RowsDiffer (sym c.in_ok-push.ensures.items)
    (RowsDiffer-push _ (c.args.key, (c.args.version, c.args.value)) c.self.invariant (ap (has_row c.args.key) c.self.view_is ∙ c.requires))
