use Rattle.std.proofs.Common.{length}
use Rattle.rc_plain_client.proofs.grant.+best.Given as goal

abbrev pub decreases-best : goal.decreases-best
decreases-best l = length l.grants.now
