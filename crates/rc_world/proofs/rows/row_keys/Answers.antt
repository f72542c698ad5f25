use Rattle.rc_world.proofs.RowFacts.{keys_more}
use Rattle.rc_world.proofs.rows.row_keys.Goals as goal

pub loop-key-preserved : goal.loop-key-preserved
loop-key-preserved c =
    keys_more c.args.rows.now.entries c.next.new.self c.loop-key.key-iterator c.loop-key.keys.keys c.add_key.new.keys.keys
    (c.in-Some.key.now, c.in-Some.field-0-1.now) c.into_iter-key-iterator.ensures.into_iter_gives.5 c.loop-key.invariant c.in-Some.ensures.steps c.in_ok-add_key.ensures
