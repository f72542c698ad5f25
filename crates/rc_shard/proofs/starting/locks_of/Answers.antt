use Rattle.std.proofs.Common.{◌≡◌, [], ap, ◌∙◌}
use Rattle.std.proofs.lemmas.Result.{IfOk-weaker}
use Rattle.rc_locks.specs.LockSets.{LockSets, only_parts}
use Rattle.rc_record.specs.InOrder.{filed}
use Rattle.rc_shard.proofs.StartFacts.{put_all-filed}
use Rattle.rc_shard.proofs.starting.locks_of.Goals as goal

pub returns-clause-parts : goal.returns-clause-parts
returns-clause-parts g c =
    let state = g.L.LockTable.state in
    IfOk-weaker c.restore.result (λ l. state l ≡ only_parts c.args.parts) (λ l. (state l).parts ≡ filed [] c.args.parts)
    (λ l e. ap (λ (s : LockSets). s.parts) e ∙ put_all-filed c.args.parts c.len-count.ensures.apart) c.restore.ensures
