use Rattle.rc_plain_shard.proofs.Replays.{IsReplayed-push}
use Rattle.rc_plain_shard.proofs.log.ShardLog.write.Goals as goal

pub invariant_of-drop : goal.invariant_of-drop
invariant_of-drop c =
    IsReplayed-push (record { log = c.records.inside.records.items; durable = c.records.inside.durable }) c.args.entry c.push.new.self.items
    c.apply.new.durable c.records.invariant c.in_ok-push.ensures.items c.in_ok-apply.ensures
