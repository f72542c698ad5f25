use Rattle.std.proofs.Common.{[], ◌∷◌, ◌++◌, sym, ap, ◌∙◌, subst, append_assoc, arith}
use Rattle.rc_ticket.specs.Cards.{at_rest}
use Rattle.rc_wire.specs.Places.{AreSeatsOf, cards_at}
use Rattle.rc_wire.proofs.Closing.{cards_more, none_left}
use Rattle.rc_wire.proofs.wire.gather_all.Goals as goal

pub gather-requires-clause-lock : goal.gather-requires-clause-lock
gather-requires-clause-lock c =
    let i = c.loop-at.invariant in
    let here = i.lock ∙ c.requires.lock in
    let seats = subst (AreSeatsOf c.args.lock.now.board.shared.table_id c.args.lock.now.board.shared.key) c.in-Some.ensures.steps.0 i.left in
    (here, seats.0.lock ∙ sym here)

pub gather-requires-clause-cards : goal.gather-requires-clause-cards
gather-requires-clause-cards c =
    let i = c.loop-at.invariant in
    let seats = subst (AreSeatsOf c.args.lock.now.board.shared.table_id c.args.lock.now.board.shared.key) c.in-Some.ensures.steps.0 i.left in
    (_, _, i.me, seats.0.alone)

pub loop-at-preserved : goal.loop-at-preserved
loop-at-preserved c =
    let i = c.loop-at.invariant in
    let key = c.args.lock.now.board.shared.key in
    let seats = subst (AreSeatsOf c.args.lock.now.board.shared.table_id key) c.in-Some.ensures.steps.0 i.left in
    record {
      lock = c.gather.ensures.lock ∙ i.lock;
      me = c.gather.ensures.cards _ _ i.me seats.0.alone ∙ ap (λ cards. (at_rest cards, [])) (sym (cards_more key c.loop-at.yielded c.in-Some.at));
      all = append_assoc c.loop-at.yielded (c.in-Some.at ∷ []) c.next.new.self.rest.items ∙ ap (λ ps. c.loop-at.yielded ++ ps) (sym c.in-Some.ensures.steps.0) ∙ i.all;
      left = seats.1;
    }

pub returns-clause-cards : goal.returns-clause-cards
returns-clause-cards c =
    let i = c.loop-at.invariant in
    i.me
    ∙ ap (λ ps. (at_rest (cards_at c.args.lock.now.board.shared.key ps), []))
    (none_left c.loop-at.yielded c.loop-at.at-iterator.rest.items c.args.list.items i.all (let s = c.in-None.ensures.steps in let o = c.loop-at.at-iterator.rest.ok in omega arith))
