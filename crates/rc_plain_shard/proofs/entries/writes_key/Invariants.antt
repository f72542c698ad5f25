use Rattle.std.proofs.Common.{◌≡◌, drop}
use Rattle.rc_body.specs.Bodies.{writes}
use Rattle.rc_plain_shard.proofs.entries.writes_key.Given as goal

abbrev pub invariant-loop-index : goal.invariant-loop-index
invariant-loop-index l = writes l.key (drop l.index l.body) ≡ writes l.key l.body
