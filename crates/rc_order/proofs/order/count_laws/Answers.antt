use Rattle.rc_order.proofs.VoteFacts.{count_laws}
use Rattle.rc_order.proofs.order.count_laws.Goals as goal

pub returns : goal.returns
returns c = count_laws
