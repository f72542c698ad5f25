use Rattle.std.proofs.Common.{◌≡◌, [], ◌++◌}
use Rattle.rc_ticket.specs.Cards.{at_rest}
use Rattle.rc_wire.specs.Places.{AreSeatsOf, cards_at}
use Rattle.rc_wire.proofs.wire.gather_all.Given as goal

abbrev pub invariant-loop-at : goal.invariant-loop-at
invariant-loop-at l = record {
  lock : l.place.table_id ≡ l.initial.place.table_id;
  me : l.place.me ≡ (at_rest (cards_at l.lock.board.shared.key l.yielded), []);
  all : l.yielded ++ l.at-iterator.rest.items ≡ l.fn.list.items;
  left : AreSeatsOf l.lock.board.shared.table_id l.lock.board.shared.key l.at-iterator.rest.items;
}
