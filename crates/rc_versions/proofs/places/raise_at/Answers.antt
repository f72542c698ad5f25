use Rattle.std.proofs.Common.{sym, subst, rules}
use Rattle.rc_versions.specs.Rows.{Rises}
use Rattle.rc_versions.proofs.RowFacts.{raise_said, raise_newer, raise_older, Rises-newest}
use Rattle.rc_versions.proofs.places.raise_at.Goals as goal

pub returns-then-is_newer-clause-said : goal.returns-then-is_newer-clause-said
returns-then-is_newer-clause-said c =
    raise_said c.args.key.now c.args.rows.now c.args.place c.index-rows-place.result c.args.version c.lt-is_newer.result c.requires.rises c.requires.place
    c.requires.there c.index-rows-place.is (search rules)

pub returns-then-is_newer-clause-rows : goal.returns-then-is_newer-clause-rows
returns-then-is_newer-clause-rows c =
    raise_newer c.args.key.now c.args.rows.now c.args.place c.index-rows-place.result c.args.version c.args.val c.lt-is_newer.result c.requires.place
    c.requires.there c.index-rows-place.is (returns-then-is_newer-clause-said c) c.if-is_newer.true

pub returns-then-is_newer-clause-rise : goal.returns-then-is_newer-clause-rise
returns-then-is_newer-clause-rise c =
    subst Rises (sym (returns-then-is_newer-clause-rows c)) (Rises-newest c.args.key.now c.args.version c.args.val c.args.rows.now c.requires.rises)

pub returns-else-is_newer-clause-said : goal.returns-else-is_newer-clause-said
returns-else-is_newer-clause-said c =
    raise_said c.args.key.now c.args.rows.now c.args.place c.index-rows-place.result c.args.version c.lt-is_newer.result c.requires.rises c.requires.place
    c.requires.there c.index-rows-place.is (search rules)

pub returns-else-is_newer-clause-rows : goal.returns-else-is_newer-clause-rows
returns-else-is_newer-clause-rows c =
    raise_older c.args.key.now c.args.rows.now c.args.place c.index-rows-place.result c.args.version c.args.val c.lt-is_newer.result
    (returns-else-is_newer-clause-said c) c.if-is_newer.false

pub returns-else-is_newer-clause-rise : goal.returns-else-is_newer-clause-rise
returns-else-is_newer-clause-rise c =
    subst Rises (sym (returns-else-is_newer-clause-rows c)) (Rises-newest c.args.key.now c.args.version c.args.val c.args.rows.now c.requires.rises)
