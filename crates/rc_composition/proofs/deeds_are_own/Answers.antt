use Rattle.rc_composition.proofs.Acting as acting
use Rattle.rc_composition.proofs.deeds_are_own.Goals as goal

pub returns : goal.returns
returns c = acting.deeds_are_own
