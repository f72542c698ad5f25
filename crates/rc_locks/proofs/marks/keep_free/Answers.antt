use Rattle.std.proofs.Common.{rules}
use Rattle.std.proofs.lemmas.Fn.{filter_same}
use Rattle.rc_protocol.specs.Shard.{is_free}
use Rattle.rc_locks.proofs.marks.keep_free.Goals as goal

pub returns : goal.returns
returns c = filter_same _ (is_free c.args.parts.now) _ (λ x b f k. search rules) _ _ c.retain.ensures.filtered
