use Rattle.std.proofs.Common.{length}
use Rattle.rc_config.proofs.stops.+nodes_differ.Given as goal

abbrev pub decreases-nodes_differ : goal.decreases-nodes_differ
decreases-nodes_differ l = length l.stops.now
