use Rattle.std.proofs.Common.{sym, ◌∙◌, arith}
use Rattle.rc_ticket.proofs.Steps.{looks}
use Rattle.rc_ticket.proofs.lock.TicketLock.wait.Goals as goal

pub load-requires : goal.load-requires
load-requires g c =
    let i = c.loop.invariant in
    (i.lock ∙ c.requires.lock, let h = c.args.self.now.counts in omega arith, looks _ _ _ _ _ c.requires.queued.0 _ (i.same ∙ c.requires.queued.1))

pub returns-then-load-ticket-clause-served : goal.returns-then-load-ticket-clause-served
returns-then-load-ticket-clause-served g c d is =
    (c.load.ensures.2 c.args.ticket d (c.loop.invariant.same ∙ is)).0 (sym c.if-load-ticket.true)

pub loop-preserved : goal.loop-preserved
loop-preserved g c =
    let i = c.loop.invariant in
    let same = i.same ∙ c.requires.queued.1 in
    record {
      can = tt;
      ends = tt;
      lock = c.load.ensures.0 ∙ i.lock;
      same = (c.load.ensures.2 c.args.ticket c.requires.queued.0 same).1 (λ e. absurd (c.if-load-ticket.false (sym e))) ∙ i.same;
    }
