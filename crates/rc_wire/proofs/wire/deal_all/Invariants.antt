use Rattle.std.proofs.Common.{◌≡◌, ◌≤◌, [], take, drop, vec_len, vec_capacity}
use Rattle.rc_ticket.specs.Cards.{at_rest, dealt}
use Rattle.rc_wire.specs.Passes.{known_from}
use Rattle.rc_wire.specs.Places.{AreSeatsOf, all_known_at}
use Rattle.rc_wire.proofs.wire.deal_all.Given as goal

abbrev pub invariant-loop-seat : goal.invariant-loop-seat
invariant-loop-seat l = record {
  lock : l.place.table_id ≡ l.lock.board.shared.table_id;
  left : l.place.me ≡ (at_rest (dealt l.seat (known_from l.lock.board.shared.key l.seat (drop l.seat l.lock.board.shared.key.parties))), []);
  seats : AreSeatsOf l.lock.board.shared.table_id l.lock.board.shared.key l.list.items;
  known : all_known_at l.lock.board.shared.key l.list.items ≡ known_from l.lock.board.shared.key 0 (take l.seat l.lock.board.shared.key.parties);
  len : vec_len l.list ≡ l.seat;
  room : l.count ≤ vec_capacity l.list;
}
