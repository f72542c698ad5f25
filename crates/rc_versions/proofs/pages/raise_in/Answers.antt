use Rattle.std.proofs.Common.{ℕ, ◌<◌, List, length, nat_lt, get_or, is_some, sym, ap, subst, ◌∙◌}
use Rattle.rc_body.specs.Rows.{Row}
use Rattle.rc_versions.proofs.PageFacts.{page_there, rises_at, found_at, version_in, newest_at, newest_kept, filled_at, paged_at}
use Rattle.rc_versions.proofs.pages.raise_in.Goals as goal

pub raise-requires-clause-rises : goal.raise-requires-clause-rises
raise-requires-clause-rises c =
    rises_at c.args.pages.now c.args.at c.index-pages-at.result (page_there c.args.key.now c.args.pages.now c.args.at c.requires.page c.requires.there)
    c.requires.paged.rises

pub raise-requires-clause-there : goal.raise-requires-clause-there
raise-requires-clause-there c =
    let lt = page_there c.args.key.now c.args.pages.now c.args.at c.requires.page c.requires.there in
    ap is_some (sym (found_at c.args.key.now c.args.pages.now c.args.at c.index-pages-at.result c.requires.page lt)) ∙ c.requires.there

pub returns-clause-said : goal.returns-clause-said
returns-clause-said c =
    let lt = page_there c.args.key.now c.args.pages.now c.args.at c.requires.page c.requires.there in
    c.raise.ensures.said
    ∙ ap (λ (n : ℕ). nat_lt n c.args.version) (sym (version_in c.args.key.now c.args.pages.now c.args.at c.index-pages-at.result c.requires.page lt))

pub returns-clause-rows : goal.returns-clause-rows
returns-clause-rows c =
    newest_at c.args.key.now c.args.version c.args.val c.args.pages.now c.args.at c.index-pages-at.result c.raise.new.self c.requires.page
    (page_there c.args.key.now c.args.pages.now c.args.at c.requires.page c.requires.there) c.raise.ensures.rows

pub returns-clause-paged : goal.returns-clause-paged
returns-clause-paged c =
    let lt = page_there c.args.key.now c.args.pages.now c.args.at c.requires.page c.requires.there in
    let p : List Row = get_or c.args.pages.now c.args.at c.index-pages-at.result in
    let some : 0 < length p = filled_at c.args.pages.now c.args.at c.index-pages-at.result lt c.requires.paged.filled in
    let more : 0 < length c.raise.new.self =
    subst (λ (rows : List Row). 0 < length rows) (sym c.raise.ensures.rows) (newest_kept c.args.key.now c.args.version c.args.val p some) in
    paged_at c.args.key.now c.args.version c.args.val c.args.pages.now c.args.at c.raise.new.self c.requires.paged more (returns-clause-rows c)
