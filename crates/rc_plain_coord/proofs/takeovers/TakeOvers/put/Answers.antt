use Rattle.std.proofs.Common.{refl}
use Rattle.rc_plain_coord.proofs.takeovers.TakeOvers.put.Goals as goal

pub returns : goal.returns
returns c = rw (c.in_ok-insert.ensures.entries, c.self.view_is) refl
