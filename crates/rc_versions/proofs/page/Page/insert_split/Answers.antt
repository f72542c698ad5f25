use Rattle.std.proofs.Common.{List, ◌++◌, is_some, sym, ap, ◌∙◌, arith}
use Rattle.rc_ids.specs.Tables.{found}
use Rattle.rc_ids.specs.Texts.{key_cmp}
use Rattle.rc_body.specs.Rows.{Row}
use Rattle.rc_versions.specs.Rows.{newest}
use Rattle.rc_versions.proofs.PageFacts.{found_above, found_below, newest_above, newest_below, half_below, half_above, half_rises}
use Rattle.rc_versions.proofs.page.Page.insert_split.Goals as goal

pub insert-requires-clause-rises : goal.insert-requires-clause-rises
insert-requires-clause-rises c =
    (half_rises c.split-upper.new.self c.split-upper.result c.args.self.now c.split-upper.ensures.rows c.requires.rises).1

pub insert-requires-clause-absent : goal.insert-requires-clause-absent
insert-requires-clause-absent c =
    let k = c.args.key.now in
    let lo = c.split-upper.new.self in
    let up = c.split-upper.result in
    let is = c.split-upper.ensures.rows in
    let below = half_below k lo up c.args.self.now is c.requires.rises (sym c.starts_by.ensures ∙ c.if-starts_by.true) in
    ap is_some (sym (found_below k lo up below) ∙ ap (λ (rows : List Row). found key_cmp rows k) is) ∙ c.requires.absent

pub insert-requires-else-starts_by-clause-rises : goal.insert-requires-else-starts_by-clause-rises
insert-requires-else-starts_by-clause-rises c =
    (half_rises c.split-upper.new.self c.split-upper.result c.args.self.now c.split-upper.ensures.rows c.requires.rises).0

pub insert-requires-else-starts_by-clause-absent : goal.insert-requires-else-starts_by-clause-absent
insert-requires-else-starts_by-clause-absent c =
    let k = c.args.key.now in
    let lo = c.split-upper.new.self in
    let up = c.split-upper.result in
    let is = c.split-upper.ensures.rows in
    let size = c.split-upper.ensures.upper in
    let above = half_above k lo up c.args.self.now is c.requires.rises (omega (arith, size)) (sym c.starts_by.ensures ∙ c.if-starts_by.false) in
    ap is_some (sym (found_above k lo up above) ∙ ap (λ (rows : List Row). found key_cmp rows k) is) ∙ c.requires.absent

pub returns-then-starts_by-clause-rows : goal.returns-then-starts_by-clause-rows
returns-then-starts_by-clause-rows c =
    let k = c.args.key.now in
    let lo : List Row = c.split-upper.new.self in
    let up = c.split-upper.result in
    let is = c.split-upper.ensures.rows in
    let below = half_below k lo up c.args.self.now is c.requires.rises (sym c.starts_by.ensures ∙ c.if-starts_by.true) in
    ap (λ (rows : List Row). lo ++ rows) c.insert.ensures.rows
    ∙ sym (newest_below k c.args.version c.args.val lo up below)
    ∙ ap (λ (rows : List Row). newest rows k c.args.version c.args.val) is

pub returns-else-starts_by-clause-rows : goal.returns-else-starts_by-clause-rows
returns-else-starts_by-clause-rows c =
    let k = c.args.key.now in
    let lo = c.split-upper.new.self in
    let up : List Row = c.split-upper.result in
    let is = c.split-upper.ensures.rows in
    let size = c.split-upper.ensures.upper in
    let above = half_above k lo up c.args.self.now is c.requires.rises (omega (arith, size)) (sym c.starts_by.ensures ∙ c.if-starts_by.false) in
    ap (λ (rows : List Row). rows ++ up) c.insert-else-starts_by.ensures.rows
    ∙ sym (newest_above k c.args.version c.args.val lo up above)
    ∙ ap (λ (rows : List Row). newest rows k c.args.version c.args.val) is
