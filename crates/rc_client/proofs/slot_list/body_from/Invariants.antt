use Rattle.std.proofs.Common.{◌≡◌, take}
use Rattle.rc_protocol.specs.Client.{body_of}
use Rattle.rc_client.proofs.slot_list.body_from.Given as goal

abbrev pub invariant-loop-slot : goal.invariant-loop-slot
invariant-loop-slot l = l.body ≡ body_of (take l.slot-index l.slots)
