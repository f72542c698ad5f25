use Rattle.std.proofs.Common.{◌≡◌, ◌++◌, filter, map, drop}
use Rattle.rc_protocol.specs.Shard.{grant_of, is_free}
use Rattle.rc_plain_shard.proofs.waiting.Waiting.send_grants.Given as goal

abbrev pub invariant-loop-mark : goal.invariant-loop-mark
invariant-loop-mark l =
    l.out ++ map (grant_of l.dc l.durable.rows) (filter (is_free l.durable.parts) (drop l.mark-index l.mark-items))
    ≡ l.fn.out ++ map (grant_of l.dc l.durable.rows) (filter (is_free l.durable.parts) l.self)
