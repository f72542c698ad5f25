use Rattle.rc_world.proofs.RowFacts.{rows_more}
use Rattle.rc_world.proofs.rows.rows_of.Goals as goal

pub loop-key-preserved : goal.loop-key-preserved
loop-key-preserved g c =
    λ rise.
    rows_more c.args.shard.now.durable.rows c.loop-key.rows.entries c.put_row.new.rows.entries c.loop-key.key-iterator c.next.new.self
    (c.in-Some.key.now, (c.in-Some.version, c.in-Some.val.now)) (c.loop-key.invariant rise) c.in-Some.ensures.steps c.in_ok-put_row.ensures rise
