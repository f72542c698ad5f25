use Rattle.std.proofs.Common.{ℕ, List, Bool, insert, sym, ap, subst, ◌∙◌, arith, if◌then◌else◌}
use Rattle.rc_body.specs.Rows.{Row}
use Rattle.rc_versions.specs.Rows.{Rises}
use Rattle.rc_versions.proofs.RowFacts.{newest_insert, rank_few, newer_none, Rises-newest}
use Rattle.rc_versions.proofs.places.insert_at.Goals as goal

pub insert-placed-requires : goal.insert-placed-requires
insert-placed-requires c =
    let few = rank_few c.args.key.now c.args.rows.now.items in
    let len = c.args.rows.now.ok.0 in
    omega (arith, few, c.requires.place, len)

pub returns-clause-rows : goal.returns-clause-rows
returns-clause-rows c =
    let rows : List Row = c.args.rows.now.items in
    let put : List ℕ → List Row = λ k. insert rows c.args.place (k, (c.args.version, c.args.val)) in
    c.insert-placed.ensures.items
    ∙ ap (λ (b : Bool). if b then put c.copy.result else rows) (c.insert-placed.ensures.succeeds c.requires.room)
    ∙ ap put c.copy.ensures
    ∙ newest_insert c.args.key.now rows c.args.place c.args.version c.args.val c.requires.rises c.requires.place c.requires.absent c.requires.written

pub returns-clause-rise : goal.returns-clause-rise
returns-clause-rise c =
    subst Rises (sym (returns-clause-rows c)) (Rises-newest c.args.key.now c.args.version c.args.val c.args.rows.now.items c.requires.rises)

pub returns-clause-newer : goal.returns-clause-newer
returns-clause-newer c =
    newer_none c.args.key.now c.args.rows.now.items c.args.place c.args.version c.requires.rises c.requires.place c.requires.absent c.requires.written
