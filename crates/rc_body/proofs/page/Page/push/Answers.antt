use Rattle.std.proofs.Common.{◌<◌, length, ap, subst, sym, ◌∙◌, arith}
use Rattle.rc_body.specs.Pages.{has_tx, IsPage}
use Rattle.rc_body.proofs.PageFacts.{IsPage-push}
use Rattle.rc_body.proofs.page.Page.push.Goals as goal

pub invariant_of-self-2 : goal.invariant_of-self-2
invariant_of-self-2 c =
    let room : length c.self.inside.entries.items < 64 = omega (arith, ap length c.self.view_is) in
    subst IsPage (sym c.in_ok-push.ensures.items)
    (IsPage-push _ c.args.tx c.args.decision c.self.invariant (ap (has_tx c.args.tx) c.self.view_is ∙ c.requires.absent) room)
