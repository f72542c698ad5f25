use Rattle.std.proofs.Common.{false, sym, arith, ◌-◌}
use Rattle.rc_ids.proofs.SetFacts.{member-marked}
use Rattle.rc_ids.proofs.sets.DcSet.has.Goals as goal

pub returns : goal.returns
returns c =
    rw (← c.self.view_is, ← c.dc.view_is)
    (sym (member-marked 1 (c.dc.inside.0 - 1) c.dc.inside.0 c.self.inside.marks false (omega arith) (omega arith)))
