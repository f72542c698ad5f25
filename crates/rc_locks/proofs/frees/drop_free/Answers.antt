use Rattle.std.proofs.Common.{not, rules}
use Rattle.std.proofs.lemmas.Fn.{filter_same}
use Rattle.rc_protocol.specs.Shard.{Mark}
use Rattle.rc_locks.specs.Cells.{is_free_at}
use Rattle.rc_locks.proofs.frees.drop_free.Goals as goal

pub returns : goal.returns
returns c = filter_same _ (λ (m : Mark). not (is_free_at c.args.cells.now.entries m)) _ (λ x b f k. search rules) _ _ c.retain.ensures.filtered
