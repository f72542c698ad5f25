use Rattle.std.proofs.Common.{sym, ◌∙◌}
use Rattle.rc_ballots.proofs.BallotFacts.{held_bound, standing_none, standing_there}
use Rattle.rc_ballots.proofs.rows.standing_at.Goals as goal

pub returns-then-not-has_at : goal.returns-then-not-has_at
returns-then-not-has_at c =
    c.nobody.ensures
    ∙ standing_none c.args.ballot c.args.rows.now c.count_below-place.result c.requires c.count_below-place.ensures.count
    (sym c.has_at.ensures ∙ c.if-not-has_at.true)

pub bounds-rows-place : goal.bounds-rows-place
bounds-rows-place c =
    held_bound c.args.ballot c.args.rows.now c.count_below-place.result (sym c.has_at.ensures ∙ c.if-not-has_at.false)

pub returns : goal.returns
returns c =
    standing_there c.args.ballot c.args.rows.now c.count_below-place.result c.index-rows-place.result c.requires c.count_below-place.ensures.count
    (sym c.has_at.ensures ∙ c.if-not-has_at.false)
