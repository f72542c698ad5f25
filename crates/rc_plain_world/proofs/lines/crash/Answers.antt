use Rattle.rc_plain_world.proofs.lines.crash.Goals as goal

pub returns-clause-ended : goal.returns-clause-ended
returns-clause-ended c = rw c.same_node.ensures at c.event.ensures.ended
