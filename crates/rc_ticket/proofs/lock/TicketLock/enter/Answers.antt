use Rattle.std.proofs.Common.{arith}
use Rattle.rc_ticket.specs.Cards.{opening}
use Rattle.rc_ticket.proofs.Places.{enters}
use Rattle.rc_ticket.proofs.lock.TicketLock.enter.Goals as goal

pub load_new_seat-place-requires : goal.load_new_seat-place-requires
load_new_seat-place-requires g c = (let h = c.args.self.now.counts in omega arith, enters _ _ _ (opening (g.C.Guarded.start c.args.self.now.board.shared.key)))
