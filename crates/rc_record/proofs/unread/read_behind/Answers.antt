use Rattle.rc_record.proofs.HeadLaws.{behind_made}
use Rattle.rc_record.proofs.unread.read_behind.Goals as goal

pub returns-in-Some : goal.returns-in-Some
returns-in-Some c =
    behind_made c.args.fields.now c.read_bytes.new.fields c.read_keys.new.fields c.args.front c.in_ok-weights.weights.items
    c.in_ok-splits.splits.items c.weight_count.result c.saturating_sub.result c.in-Some.head c.in_ok-weights.ensures.ok c.weight_count.ensures
    c.in_ok-splits.ensures.ok c.saturating_sub.ensures c.in-Some.ensures
