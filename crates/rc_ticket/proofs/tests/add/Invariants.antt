use Rattle.std.proofs.Common.{◌≡◌, ℕ, []}
use Rattle.rc_ticket.specs.declared.rule.Card.{Card}
use Rattle.rc_ticket.specs.Cards.{idle}
use Rattle.rc_ticket.proofs.tests.add.Given as goal

abbrev pub invariant-loop : goal.invariant-loop
invariant-loop g l = record {
  lock : l.place.table_id ≡ l.lock.board.shared.table_id;
  idle : (c : Card ℕ) × (l.place.me ≡ (idle c, []));
}
