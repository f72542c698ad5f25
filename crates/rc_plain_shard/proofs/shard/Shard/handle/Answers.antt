use Rattle.std.proofs.lemmas.Result.{on_ok_weaker}
use Rattle.rc_plain_shard.proofs.shard.Shard.handle.Goals as goal

pub returns : goal.returns
returns c = on_ok_weaker c.act.result (λ acted. (acted.node, acted.sends)) c.act.ensures
