use Rattle.rc_locks.proofs.MoveFacts.{plain_same, lost_same}
use Rattle.rc_locks.proofs.moves.place.Goals as goal

pub returns-clause-plain : goal.returns-clause-plain
returns-clause-plain c =
    plain_same c.args.locks.now.entries c.make_place.new.locks.entries c.requires.rises c.make_place.ensures.rises c.make_place.ensures.plain

pub returns-clause-lost : goal.returns-clause-lost
returns-clause-lost c =
    lost_same c.args.locks.now.entries c.make_place.new.locks.entries c.requires.rises c.make_place.ensures.rises c.make_place.ensures.lost
