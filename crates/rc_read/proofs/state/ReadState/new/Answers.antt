use Rattle.std.proofs.Common.{ap, ◌∙◌}
use Rattle.rc_ids.specs.Cluster.{holds}
use Rattle.rc_read.proofs.ReadFacts.{none_holds}
use Rattle.rc_read.proofs.state.ReadState.new.Goals as goal

pub returns-clause-open : goal.returns-clause-open
returns-clause-open c = ap (λ set. holds c.args.quorum set) c.new.ensures ∙ none_holds c.args.quorum
