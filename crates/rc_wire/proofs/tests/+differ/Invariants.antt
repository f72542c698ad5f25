use Rattle.std.proofs.Common.{length}
use Rattle.rc_wire.proofs.tests.+differ.Given as goal

abbrev pub decreases-differ : goal.decreases-differ
decreases-differ l = length l.parties.now
