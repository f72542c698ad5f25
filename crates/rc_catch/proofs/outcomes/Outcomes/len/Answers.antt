use Rattle.std.proofs.Common.{arith}
use Rattle.rc_catch.proofs.ListFacts.{fewer, differ}
use Rattle.rc_catch.proofs.outcomes.Outcomes.len.Goals as goal

pub overflow_cast-result : goal.overflow_cast-result
overflow_cast-result c =
    let few = fewer c.self.inside.list.entries c.self.invariant c.len.ensures.unique in omega arith

pub returns-clause-few : goal.returns-clause-few
returns-clause-few c = rw (← c.self.view_is) (fewer c.self.inside.list.entries c.self.invariant c.len.ensures.unique)

pub returns-clause-apart : goal.returns-clause-apart
returns-clause-apart c = rw (← c.self.view_is) (differ c.self.inside.list.entries c.len.ensures.unique)
