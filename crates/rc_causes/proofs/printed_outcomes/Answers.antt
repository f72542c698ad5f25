use Rattle.rc_causes.proofs.Times.{printed_in}
use Rattle.rc_causes.proofs.LifeCauses.{printed_is_chosen}
use Rattle.rc_causes.proofs.printed_outcomes.Goals as goal

pub returns-clause-moments : goal.returns-clause-moments
returns-clause-moments c = printed_in

pub returns-clause-chosen : goal.returns-clause-chosen
returns-clause-chosen c = printed_is_chosen
