use Rattle.std.proofs.Common.{not, ◌==◌, rules}
use Rattle.std.proofs.lemmas.Fn.{filter_same}
use Rattle.rc_protocol.specs.Shard.{Mark}
use Rattle.rc_locks.proofs.marks.clear.Goals as goal

pub returns-clause-items : goal.returns-clause-items
returns-clause-items c = filter_same _ (λ (m : Mark). not (m.1 == c.args.tx)) _ (λ x b f k. search rules) _ _ c.retain.ensures.filtered
