use Rattle.rc_order.proofs.LogFacts.{log_laws}
use Rattle.rc_order.proofs.order.log_laws.Goals as goal

pub returns : goal.returns
returns c = log_laws
