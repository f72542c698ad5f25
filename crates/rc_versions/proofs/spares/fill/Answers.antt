use Rattle.std.proofs.Common.{sym, subst, arith}
use Rattle.rc_versions.specs.Pages.{AreEmpty}
use Rattle.rc_versions.proofs.PageFacts.{empty_push}
use Rattle.rc_versions.proofs.spares.fill.Goals as goal

pub loop-pages-preserved : goal.loop-pages-preserved
loop-pages-preserved c =
    let before = c.loop-pages.invariant.1 in
    let len = c.in_ok-push.ensures.len in (
      subst AreEmpty (sym c.in_ok-push.ensures.items)
          (empty_push c.loop-pages.pages.items c.in_ok-page.page c.loop-pages.invariant.0 c.in_ok-page.ensures),
      omega (arith, before, len),
    )
