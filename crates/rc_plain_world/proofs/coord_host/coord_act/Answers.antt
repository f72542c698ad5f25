use Rattle.rc_plain_world.proofs.coord_host.coord_act.Goals as goal

pub returns-in-Take-clause-done : goal.returns-in-Take-clause-done
returns-in-Take-clause-done c = rw c.in-Take.is c.take.ensures.done
