use Rattle.std.proofs.Common.{◌≡◌, ◌+◌, take}
use Rattle.rc_net.specs.Network.{letters_bytes}
use Rattle.rc_net.proofs.parcel.left_after.Given as goal

abbrev pub invariant-loop-letter : goal.invariant-loop-letter
invariant-loop-letter l = l.left + letters_bytes (take l.letter-index l.letters) ≡ l.bytes
