use Rattle.std.proofs.Common.{arith}
use Rattle.rc_ticket.proofs.Steps.{draws}
use Rattle.rc_ticket.proofs.lock.TicketLock.draw.Goals as goal

pub fetch_add-requires : goal.fetch_add-requires
fetch_add-requires g c = (c.requires.lock, let h = c.args.self.now.counts in omega arith, draws _ _ _ _ c.requires.idle.0 _ c.requires.idle.1)
