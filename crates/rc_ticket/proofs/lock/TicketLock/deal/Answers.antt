use Rattle.std.proofs.Common.{[], ap, ◌∙◌, arith}
use Rattle.rc_ticket.specs.Cards.{without_first, first_alone}
use Rattle.rc_ticket.proofs.Places.{splits}
use Rattle.rc_ticket.proofs.lock.TicketLock.deal.Goals as goal

pub split_seat-requires : goal.split_seat-requires
split_seat-requires g c = (c.requires.lock, (let h = c.args.self.now.counts in omega arith), splits _ _ _ _ c.requires.cards.0 c.requires.cards.1 c.requires.cards.2)

pub returns-clause-cards : goal.returns-clause-cards
returns-clause-cards g c d cards e =
    let s = c.split_seat.ensures in
    (s.2 ∙ ap (λ m. (without_first m.0, m.1)) e, s.4 ∙ ap (λ m. (first_alone m.0, [])) e)
