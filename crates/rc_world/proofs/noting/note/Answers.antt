use Rattle.std.proofs.Common.{sym, ◌∙◌}
use Rattle.rc_world.proofs.Ordering.{none_noted, one_noted}
use Rattle.rc_world.proofs.noting.note.Goals as goal

pub returns-in-Some : goal.returns-in-Some
returns-in-Some c = λ cluster coords earlier committed before after left is known stood log vote.
    one_noted c.count_laws.ensures cluster coords earlier committed c.args.dc before after known stood c.note.new.self left c.in-Some.vote log (sym vote ∙ c.in-Some.is)
    (λ now body written. c.note.ensures.order cluster coords now body earlier committed is known written)

pub returns-in_default : goal.returns-in_default
returns-in_default c = λ cluster coords earlier committed before after left is known stood log vote.
    none_noted c.count_laws.ensures cluster coords earlier committed c.args.dc before after known stood c.args.order.now left log (sym vote ∙ c.in_default.is) is
