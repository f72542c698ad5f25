use Rattle.std.proofs.Common.{◌∙◌}
use Rattle.rc_ticket.proofs.tests.add.Goals as goal

pub leave-requires-clause-served : goal.leave-requires-clause-served
leave-requires-clause-served g c =
    let i = c.loop.invariant.idle in
    (i.0, c.take-ticket.result.1, c.take-ticket.ensures.served i.0 i.1, λ fit. fit, λ seat x other fit. fit)

pub loop-preserved : goal.loop-preserved
loop-preserved g c =
    let i = c.loop.invariant.idle in
    record {
      lock = c.leave.ensures.lock ∙ c.take-ticket.ensures.lock ∙ c.loop.invariant.lock;
      idle = (_, c.leave.ensures.idle i.0 c.take-ticket.result.1 (c.take-ticket.ensures.served i.0 i.1));
    }
