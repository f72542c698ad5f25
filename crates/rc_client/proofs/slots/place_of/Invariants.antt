use Rattle.std.proofs.Common.{◌≡◌, None, take}
use Rattle.rc_protocol.specs.Client.{slot_of}
use Rattle.rc_client.proofs.slots.place_of.Given as goal

abbrev pub invariant-loop-place : goal.invariant-loop-place
invariant-loop-place l = slot_of (take l.place l.slots) l.key ≡ None
