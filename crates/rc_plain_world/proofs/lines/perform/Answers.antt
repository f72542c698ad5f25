use Rattle.rc_plain_world.proofs.lines.perform.Goals as goal

pub returns-in-Take-clause-done : goal.returns-in-Take-clause-done
returns-in-Take-clause-done c = rw c.in-Take.is c.take.ensures.done

pub returns-in-Take-clause-ended : goal.returns-in-Take-clause-ended
returns-in-Take-clause-ended c = rw c.in-Take.is c.take.ensures.ended
