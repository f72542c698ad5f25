use Rattle.std.proofs.Common.{◌∷◌, Some, ap, ◌∙◌, arith}
use Rattle.atomic_table.specs.Table.{rest}
use Rattle.rc_ticket.proofs.Steps.{took, passes}
use Rattle.rc_ticket.proofs.lock.TicketLock.leave.Goals as goal

pub exchange-requires : goal.exchange-requires
exchange-requires g c = (c.requires.lock, (_, took _ _ (ap (λ m. m.1) c.requires.served.2)))

pub fetch_add-requires : goal.fetch_add-requires
fetch_add-requires g c =
    let x = c.exchange.ensures in
    let r = c.requires.served in
    let me = x.3 ∙ ap (λ m. (m.0, (0, Some c.args.value) ∷ rest m.1)) r.2 in
    (x.0 ∙ c.requires.lock, let h = c.args.self.now.counts in omega arith, passes _ g.C.Guarded.fits g.C.Guarded.learned _ _ c.args.ticket r.0 r.1 c.args.value _ c.stop_at_last.ensures r.3 r.4 me)

pub returns-clause-idle : goal.returns-clause-idle
returns-clause-idle g c d held e =
    let x = c.exchange.ensures in
    let me = x.3 ∙ ap (λ m. (m.0, (0, Some c.args.value) ∷ rest m.1)) e in
    c.fetch_add.ensures.2 c.args.ticket d held c.args.value me
