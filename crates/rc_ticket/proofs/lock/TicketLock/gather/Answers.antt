use Rattle.std.proofs.Common.{ap, ◌∙◌, arith}
use Rattle.rc_ticket.specs.Cards.{together}
use Rattle.rc_ticket.proofs.Places.{joins}
use Rattle.rc_ticket.proofs.lock.TicketLock.gather.Goals as goal

pub join_seat-requires : goal.join_seat-requires
join_seat-requires g c =
    let r = c.requires.cards in
    (c.requires.lock.0, c.requires.lock.1 ∙ c.requires.lock.0, ap (λ m. m.1) r.3, (let h = c.args.self.now.counts in omega arith), joins _ _ _ _ _ _ r.0 r.1 r.2 r.3)

pub returns-clause-cards : goal.returns-clause-cards
returns-clause-cards g c cards others e f = c.join_seat.ensures.2 ∙ (λ j. (together (e j).0 (f j).0, (e j).1))
