use Rattle.std.proofs.Common.{[], ◌∷◌, refl, ◌∙◌}
use Rattle.rc_ticket.specs.Cards.{card}
use Rattle.rc_ticket.proofs.tests.sum_of_two.Goals as goal

pub deal-second-requires-clause-cards : goal.deal-second-requires-clause-cards
deal-second-requires-clause-cards g c = (card 1 0, [], (c.deal-first.ensures.cards (card 0 0) (card 1 0 ∷ []) c.in_ok-lock.ensures.place.1).0)

pub join-first-requires-after_bounds : goal.join-first-requires-after_bounds
join-first-requires-after_bounds g c κs within =
    let at = c.in_ok-lock.ensures.place in
    let first = c.deal-first.ensures.cards (card 0 0) (card 1 0 ∷ []) at.1 in
    let second = c.deal-second.ensures.cards (card 1 0) [] first.0 in (
      (c.deal-first.ensures.lock.1 ∙ at.0, (card 0 0, first.1)),
      (c.deal-second.ensures.lock.1 ∙ c.deal-first.ensures.lock.0 ∙ at.0, (card 1 0, second.1)),
    )

pub gather-requires-clause-cards : goal.gather-requires-clause-cards
gather-requires-clause-cards g c =
    let first = c.deal-first.ensures.cards (card 0 0) (card 1 0 ∷ []) c.in_ok-lock.ensures.place.1 in
    let second = c.deal-second.ensures.cards (card 1 0) [] first.0 in
    ([], _, second.0, c.join-first.ensures.first.1.1)

pub gather-requires-2-clause-cards : goal.gather-requires-2-clause-cards
gather-requires-2-clause-cards g c =
    let first = c.deal-first.ensures.cards (card 0 0) (card 1 0 ∷ []) c.in_ok-lock.ensures.place.1 in
    let second = c.deal-second.ensures.cards (card 1 0) [] first.0 in
    (_, _, c.gather.ensures.cards _ _ second.0 c.join-first.ensures.first.1.1, c.join-first.ensures.second.1.1)

pub close-requires-clause-all : goal.close-requires-clause-all
close-requires-clause-all g c =
    let first = c.deal-first.ensures.cards (card 0 0) (card 1 0 ∷ []) c.in_ok-lock.ensures.place.1 in
    let second = c.deal-second.ensures.cards (card 1 0) [] first.0 in
    let one = c.gather.ensures.cards _ _ second.0 c.join-first.ensures.first.1.1 in
    (_, c.gather-2.ensures.cards _ _ one c.join-first.ensures.second.1.1, refl)
