use Rattle.std.proofs.Common.{◌≡◌, []}
use Rattle.rc_shard.specs.Plans.{newest_all}
use Rattle.rc_shard.proofs.starting.versions_of.Given as goal

abbrev pub invariant-loop-key : goal.invariant-loop-key
invariant-loop-key l = newest_all l.versions.rows l.key-iterator ≡ newest_all [] l.rows
