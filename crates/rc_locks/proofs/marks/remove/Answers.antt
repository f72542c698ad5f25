use Rattle.std.proofs.Common.{rules}
use Rattle.std.proofs.lemmas.Fn.{filter_same}
use Rattle.rc_protocol.specs.Shard.{is_other}
use Rattle.rc_locks.proofs.marks.remove.Goals as goal

pub returns : goal.returns
returns c = filter_same _ (is_other c.args.removed.now) _ (λ x b f k. search rules) _ _ c.retain.ensures.filtered
