use Rattle.std.proofs.Common.{◌≡◌, false, is_some, slice_get, Some, sym, ap, ◌∙◌}
use Rattle.rc_versions.specs.Rows.{held}
use Rattle.rc_versions.proofs.RowFacts.{held_bound, found_none, found_some}
use Rattle.rc_versions.proofs.places.row_of.Goals as goal

pub returns-then-not-has_at : goal.returns-then-not-has_at
returns-then-not-has_at c =
    let none : is_some (held c.args.key.now (slice_get c.args.rows.now c.count_below-place.result)) ≡ false =
    sym c.has_at.ensures ∙ c.if-not-has_at.true in
    found_none c.args.key.now c.args.rows.now c.count_below-place.result c.requires c.count_below-place.ensures.count none

pub bounds-rows-place : goal.bounds-rows-place
bounds-rows-place c =
    held_bound c.args.key.now c.args.rows.now c.count_below-place.result (sym c.has_at.ensures ∙ c.if-not-has_at.false)

pub returns : goal.returns
returns c =
    ap (λ r. Some r.1) (sym c.index-rows-place.is)
    ∙ found_some c.args.key.now c.args.rows.now c.count_below-place.result c.index-rows-place.result c.requires c.count_below-place.ensures.count
    (sym c.has_at.ensures ∙ c.if-not-has_at.false) c.index-rows-place.is
