use Rattle.std.proofs.Common.{◌≡◌, map, drop}
use Rattle.rc_protocol.specs.Shard.{grant_of}
use Rattle.rc_shard.specs.Plans.{newest_all}
use Rattle.rc_msg.specs.Posts.{posted_all, Grows}
use Rattle.rc_shard.proofs.grants.post_grants.Given as goal

abbrev pub invariant-loop-mark : goal.invariant-loop-mark
invariant-loop-mark l = record {
  sends : posted_all l.out (map (grant_of l.dc (newest_all l.versions.rows l.writes)) (drop l.mark-index l.marks))
      ≡ posted_all l.fn.out (map (grant_of l.dc (newest_all l.versions.rows l.writes)) l.marks);
  grows : Grows l.fn.out l.out;
}
