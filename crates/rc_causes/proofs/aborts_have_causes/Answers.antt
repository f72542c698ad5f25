use Rattle.rc_causes.proofs.LifeCauses as law
use Rattle.rc_causes.proofs.aborts_have_causes.Goals as goal

pub returns : goal.returns
returns c = law.aborts_have_causes
