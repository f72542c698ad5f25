use Rattle.std.proofs.Common.{◌≡◌, ◌≤◌, length}
use Rattle.rc_shard.specs.Plans.{newest_all}
use Rattle.rc_shard.proofs.applying.write_all.Given as goal

abbrev pub invariant-loop-key : goal.invariant-loop-key
invariant-loop-key l = record {
  rows : newest_all l.versions.rows l.key-iterator.rest.items ≡ newest_all l.fn.versions.rows l.fn.writes.items;
  room : length l.key-iterator.rest.items ≤ l.versions.spare;
}
