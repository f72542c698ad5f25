use Rattle.std.proofs.Common.{◌≡◌}
use Rattle.rc_runs.specs.World.{envelopes}
use Rattle.rc_plain_world.proofs.network.addressed.Given as goal

abbrev pub invariant-loop-to : goal.invariant-loop-to
invariant-loop-to l = l.letters.items ≡ envelopes l.from l.yielded
