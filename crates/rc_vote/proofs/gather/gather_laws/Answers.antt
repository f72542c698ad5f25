use Rattle.rc_vote.proofs.GatherFacts.{is_gather}
use Rattle.rc_vote.proofs.gather.gather_laws.Goals as goal

pub returns : goal.returns
returns c = is_gather
