use Rattle.std.proofs.Common.{[], ◌∷◌, ◌++◌, sym, ap, ◌∙◌, subst, arith, refl}
use Rattle.rc_ticket.specs.Cards.{at_rest}
use Rattle.rc_wire.specs.declared.pass.SeatPlace.{SeatPlace}
use Rattle.rc_wire.specs.Places.{AreSeatsOf, all_known_at}
use Rattle.rc_wire.proofs.Dealing.{next, first_card, seat_dealt, seats_more, known_more, known_last}
use Rattle.rc_wire.proofs.wire.deal_all.Goals as goal

pub deal-requires-clause-cards : goal.deal-requires-clause-cards
deal-requires-clause-cards c =
    let k = c.loop-seat.seat in
    let key = c.args.lock.now.board.shared.key in
    let n = next key.parties k (let a = c.loop-seat-test.true in let b = c.requires.count in omega arith) in
    (_, _, c.loop-seat.invariant.left ∙ ap (λ cards. (at_rest cards, [])) (first_card key k n))

pub loop-seat-preserved : goal.loop-seat-preserved
loop-seat-preserved c =
    let k = c.loop-seat.seat in
    let key = c.args.lock.now.board.shared.key in
    let table = c.args.lock.now.board.shared.table_id in
    let i = c.loop-seat.invariant in
    let n = next key.parties k (let a = c.loop-seat-test.true in let b = c.requires.count in omega arith) in
    let d = c.deal.ensures.cards _ _ (i.left ∙ ap (λ cards. (at_rest cards, [])) (first_card key k n)) in
    let p : SeatPlace = record { place = c.deal.result; seat = k } in
    let s = seat_dealt table key k n p c.requires.new (c.deal.ensures.lock.1 ∙ i.lock) refl d.1 in
    let pushed = c.push_reserved.ensures in
    record {
      lock = c.deal.ensures.lock.0 ∙ i.lock;
      left = d.0;
      seats = subst (AreSeatsOf table key) (sym pushed.items) (seats_more table key c.loop-seat.list.items p i.seats s.0);
      known = ap (all_known_at key) pushed.items ∙ known_more key c.loop-seat.list.items p ∙ (λ j. i.known j ++ s.1 j ∷ []) ∙ known_last key k n;
      len = let a = pushed.len in let b = i.len in omega arith;
      room = let a = pushed.capacity in let b = i.room in omega arith;
    }
