use Rattle.std.proofs.Common.{length}
use Rattle.rc_config.proofs.clients.+txs_differ.Given as goal

abbrev pub decreases-txs_differ : goal.decreases-txs_differ
decreases-txs_differ l = length l.clients.now
