use Rattle.std.proofs.Common.{arith, ◌-◌}
use Rattle.rc_ids.proofs.SetFacts.{marked-set}
use Rattle.rc_ids.proofs.sets.DcSet.with.Goals as goal

pub returns : goal.returns
returns c =
    rw (← c.self.view_is, ← c.dc.view_is)
    (marked-set 1 (c.dc.inside.0 - 1) c.dc.inside.0 c.self.inside.marks (omega arith) (omega arith))
