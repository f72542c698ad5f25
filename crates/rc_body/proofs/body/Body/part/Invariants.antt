use Rattle.std.proofs.Common.{◌≡◌, take}
use Rattle.rc_body.specs.Bodies.{part}
use Rattle.rc_body.proofs.body.Body.part.Given as goal

abbrev pub invariant-loop-index : goal.invariant-loop-index
invariant-loop-index l = l.parted ≡ part l.cluster l.shard (take l.index l.self)
