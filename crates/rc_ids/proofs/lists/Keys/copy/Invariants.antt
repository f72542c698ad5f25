use Rattle.std.proofs.Common.{◌≡◌, take}
use Rattle.rc_ids.proofs.lists.Keys.copy.Given as goal

abbrev pub invariant-loop-key : goal.invariant-loop-key
invariant-loop-key l = l.keys ≡ take l.key-index l.key-items
