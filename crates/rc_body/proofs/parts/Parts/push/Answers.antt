use Rattle.std.proofs.Common.{ap, subst, sym, ◌∙◌}
use Rattle.rc_body.specs.Pages.{has_tx, TxsDiffer}
use Rattle.rc_body.proofs.PageFacts.{TxsDiffer-push}
use Rattle.rc_body.proofs.parts.Parts.push.Goals as goal

pub invariant_of-self-2 : goal.invariant_of-self-2
invariant_of-self-2 c =
    subst TxsDiffer (sym c.in_ok-push.ensures.items)
    (TxsDiffer-push _ c.args.tx c.args.body c.self.invariant (ap (has_tx c.args.tx) c.self.view_is ∙ c.requires))
