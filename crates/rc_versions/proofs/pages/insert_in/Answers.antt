use Rattle.std.proofs.Common.{is_some, sym, ap, ◌∙◌}
use Rattle.rc_versions.proofs.PageFacts.{rises_at, found_at, newest_at, paged_at}
use Rattle.rc_versions.proofs.pages.insert_in.Goals as goal

pub insert-requires-clause-rises : goal.insert-requires-clause-rises
insert-requires-clause-rises c = rises_at c.args.pages.now c.args.at c.index-pages-at.result c.requires.there c.requires.paged.rises

pub insert-requires-clause-absent : goal.insert-requires-clause-absent
insert-requires-clause-absent c =
    ap is_some (sym (found_at c.args.key.now c.args.pages.now c.args.at c.index-pages-at.result c.requires.page c.requires.there)) ∙ c.requires.absent

pub returns-clause-rows : goal.returns-clause-rows
returns-clause-rows c =
    newest_at c.args.key.now c.args.version c.args.val c.args.pages.now c.args.at c.index-pages-at.result c.insert.new.self c.requires.page
    c.requires.there c.insert.ensures.rows

pub returns-clause-paged : goal.returns-clause-paged
returns-clause-paged c =
    paged_at c.args.key.now c.args.version c.args.val c.args.pages.now c.args.at c.insert.new.self c.requires.paged c.insert.ensures.filled
    (returns-clause-rows c)
