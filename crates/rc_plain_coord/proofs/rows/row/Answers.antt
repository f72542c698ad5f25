use Rattle.rc_plain_coord.proofs.rows.row.Goals as goal

pub returns-in_ok-on_voted-in-Voted-clause-ok : goal.returns-in_ok-on_voted-in-Voted-clause-ok
returns-in_ok-on_voted-in-Voted-clause-ok c = rw c.in-Voted.is c.in_ok-on_voted-in-Voted.ensures
