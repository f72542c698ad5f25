use Rattle.std.proofs.Common.{rules}
use Rattle.rc_config.proofs.Numbering.{numbered_more}
use Rattle.rc_config.proofs.lines.Lines.push.Goals as goal

pub invariant_of-self-2 : goal.invariant_of-self-2
invariant_of-self-2 c = rw c.in_ok-push.ensures.items (numbered_more _ _ _ c.self.invariant (search rules))
