use Rattle.std.proofs.Common.{List, sym, ap, subst, ◌∙◌}
use Rattle.rc_ids.specs.Tables.{found}
use Rattle.rc_ids.specs.Texts.{key_cmp}
use Rattle.rc_body.specs.Rows.{Row}
use Rattle.rc_versions.specs.Rows.{Rises}
use Rattle.rc_versions.proofs.PageFacts.{rises_at, found_at}
use Rattle.rc_versions.proofs.pages.row_at.Goals as goal

pub get-requires : goal.get-requires
get-requires c =
    subst Rises (sym c.index-pages-at.is) (rises_at c.args.pages.now c.args.at c.index-pages-at.result c.if-pages-at.false c.requires.paged.rises)

pub returns : goal.returns
returns c =
    c.get.ensures ∙ ap (λ (p : List Row). found key_cmp p c.args.key.now) c.index-pages-at.is
    ∙ sym (found_at c.args.key.now c.args.pages.now c.args.at c.index-pages-at.result c.requires.page c.if-pages-at.false)
