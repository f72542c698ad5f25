use Rattle.std.proofs.Common.{◌∷◌, sym, ap, ◌∙◌}
use Rattle.atomic_table.specs.Table.{rest}
use Rattle.rc_ticket.proofs.Steps.{took, took_value, emptied}
use Rattle.rc_ticket.proofs.lock.TicketLock.take.Goals as goal

pub exchange-requires : goal.exchange-requires
exchange-requires g c =
    let is = c.draw-ticket.ensures.queued c.requires.idle.0 c.requires.idle.1 in
    let s = c.wait.ensures.served c.requires.idle.0 is in
    (c.wait.ensures.lock ∙ c.draw-ticket.ensures.lock ∙ c.requires.lock, (_, took _ _ (ap (λ m. m.1) s.1)))

pub returns-clause-served : goal.returns-clause-served
returns-clause-served g c d e =
    let s = c.wait.ensures.served d (c.draw-ticket.ensures.queued d e) in
    let x = c.exchange.ensures in
    (emptied g.C.Guarded.fits _ _ d _ _ _ s.1 (x.2 ∙ ap (λ o. (0, o) ∷ rest c.wait.new.place.me.1) c.in-Some.is) x.3 s.2).0

pub returns-clause-fits : goal.returns-clause-fits
returns-clause-fits g c d e =
    let s = c.wait.ensures.served d (c.draw-ticket.ensures.queued d e) in
    let x = c.exchange.ensures in
    (emptied g.C.Guarded.fits _ _ d _ _ _ s.1 (x.2 ∙ ap (λ o. (0, o) ∷ rest c.wait.new.place.me.1) c.in-Some.is) x.3 s.2).1

pub wait-requires-clause-queued : goal.wait-requires-clause-queued
wait-requires-clause-queued g c = (c.requires.idle.0, c.draw-ticket.ensures.queued c.requires.idle.0 c.requires.idle.1)

pub unreachable-requires : goal.unreachable-requires
unreachable-requires g c =
    let is = c.draw-ticket.ensures.queued c.requires.idle.0 c.requires.idle.1 in
    let s = c.wait.ensures.served c.requires.idle.0 is in
    c.in_default.not-Some s.0 (sym (took_value _ _ _ _ (ap (λ m. m.1) s.1) c.exchange.ensures.2))
