use Rattle.rc_causes.proofs.Refusing as refusing
use Rattle.rc_causes.proofs.refusals_have_causes.Goals as goal

pub returns : goal.returns
returns c = refusing.refusals_have_causes
