use Rattle.std.proofs.Common.{◌≡◌, drop}
use Rattle.rc_record.specs.Kinds.{body_has_gone}
use Rattle.rc_record.proofs.kinds.body_has_gone.Given as goal

abbrev pub invariant-loop-index : goal.invariant-loop-index
invariant-loop-index l = body_has_gone (drop l.index l.body) ≡ body_has_gone l.body
