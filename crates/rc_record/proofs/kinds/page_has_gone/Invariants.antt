use Rattle.std.proofs.Common.{◌≡◌, drop}
use Rattle.rc_record.specs.Kinds.{page_has_gone}
use Rattle.rc_record.proofs.kinds.page_has_gone.Given as goal

abbrev pub invariant-loop-index : goal.invariant-loop-index
invariant-loop-index l = page_has_gone (drop l.index l.page) ≡ page_has_gone l.page
