use Rattle.rc_locks.proofs.CellFacts.{room_wide}
use Rattle.rc_locks.proofs.cells.widen.Goals as goal

pub returns-clause-room : goal.returns-clause-room
returns-clause-room c t = (room_wide t c.reserve.new.self c.in_ok-reserve.ensures.ok, room_wide t c.reserve-2.new.self c.in_ok-reserve-2.ensures.ok)
