use Rattle.std.proofs.Common.{◌≡◌, take}
use Rattle.rc_runs.specs.World.{bytes_of}
use Rattle.rc_plain_world.proofs.network.bytes_of.Given as goal

abbrev pub invariant-loop-letter : goal.invariant-loop-letter
invariant-loop-letter l = l.bytes ≡ bytes_of (take l.letter-index l.letters)
