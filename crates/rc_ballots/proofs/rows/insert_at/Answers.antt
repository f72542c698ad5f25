use Rattle.std.proofs.Common.{List, Bool, insert, sym, ap, subst, ◌∙◌, arith, if◌then◌else◌}
use Rattle.rc_ballots.specs.Tallies.{Rises}
use Rattle.rc_ballots.proofs.BallotFacts.{Row, rank_few, put_new, Rises-put}
use Rattle.rc_ballots.proofs.rows.insert_at.Goals as goal

pub insert-placed-requires : goal.insert-placed-requires
insert-placed-requires c =
    let few = rank_few c.args.ballot c.args.rows.now.items in
    let len = c.args.rows.now.ok.0 in
    omega (arith, few, c.requires.place, len)

pub returns-clause-rows : goal.returns-clause-rows
returns-clause-rows c =
    let rows : List Row = c.args.rows.now.items in
    c.insert-placed.ensures.items
    ∙ ap (λ (b : Bool). if b then insert rows c.args.place (c.args.ballot, c.args.standing) else rows) (c.insert-placed.ensures.succeeds c.requires.room)
    ∙ put_new c.args.ballot c.args.standing rows c.args.place c.requires.place c.requires.absent

pub returns-clause-rise : goal.returns-clause-rise
returns-clause-rise c =
    subst Rises (sym (returns-clause-rows c)) (Rises-put c.args.ballot c.args.standing c.args.rows.now.items c.requires.rises)
