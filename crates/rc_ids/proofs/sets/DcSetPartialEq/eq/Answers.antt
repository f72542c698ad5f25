use Rattle.std.proofs.Common.{◌∙◌, arith}
use Rattle.rc_ids.proofs.SetFacts.{same_marked}
use Rattle.rc_ids.proofs.sets.DcSetPartialEq.eq.Goals as goal

pub returns : goal.returns
returns c =
    rw (← c.self.view_is, ← c.other.view_is)
    (c.eq.ensures ∙ same_marked 1 c.self.inside.marks c.other.inside.marks (omega arith))
