use Rattle.std.proofs.Common.{arith, sym, ◌∙◌}
use Rattle.rc_ids.proofs.SetFacts.{length-marked, marked-rises}
use Rattle.rc_ids.proofs.sets.ShardSet.len.Goals as goal

pub returns-clause-len : goal.returns-clause-len
returns-clause-len c = rw (← c.self.view_is) (c.count_marks.ensures.count ∙ sym (length-marked 1 c.self.inside.marks))

pub returns-clause-members : goal.returns-clause-members
returns-clause-members c = rw (← c.self.view_is) (marked-rises 1 c.self.inside.marks 1 8 (omega arith) (omega arith))
