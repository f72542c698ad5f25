use Rattle.rc_ids.proofs.QuorumFacts as facts
use Rattle.rc_ids.proofs.quorum.quorum_laws.Goals as goal

pub returns : goal.returns
returns c = facts.quorum_laws
