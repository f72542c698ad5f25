use Rattle.rc_versions.proofs.PageFacts.{page_reached}
use Rattle.rc_versions.proofs.pages.page_of.Goals as goal

pub returns : goal.returns
returns c =
    page_reached c.args.key.now c.args.pages.now c.count_up_to.result c.saturating_sub.result c.requires c.count_up_to.ensures.count
    c.count_up_to.ensures.few c.saturating_sub.ensures
