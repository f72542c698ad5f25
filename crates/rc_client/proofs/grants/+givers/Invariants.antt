use Rattle.std.proofs.Common.{length}
use Rattle.rc_client.proofs.grants.+givers.Given as goal

abbrev pub decreases-givers : goal.decreases-givers
decreases-givers l = length l.grants.now
