use Rattle.rc_traces.proofs.Traced.{world_traced, lines_traced}
use Rattle.rc_traces.proofs.lines_are_traced.Goals as goal

pub returns-clause-world : goal.returns-clause-world
returns-clause-world c = world_traced

pub returns-clause-lines : goal.returns-clause-lines
returns-clause-lines c = lines_traced
