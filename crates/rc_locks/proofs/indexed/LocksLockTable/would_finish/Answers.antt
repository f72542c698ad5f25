use Rattle.std.proofs.Common.{List, filter, ap, ◌∙◌}
use Rattle.std.proofs.lemmas.Result.{IfOk-weaker}
use Rattle.rc_protocol.specs.Shard.{Mark}
use Rattle.rc_locks.specs.Cells.{frees_at}
use Rattle.rc_locks.proofs.FreeFacts.{freed_without}
use Rattle.rc_locks.proofs.indexed.LocksLockTable.would_finish.Goals as goal

pub returns : goal.returns
returns c =
    let locks = c.args.self.now in
    IfOk-weaker c.would_free.result _ _
    (λ v is. is ∙ ap (λ (ws : List Mark). filter (frees_at locks.cells.entries c.args.txs.now) ws) c.deref.ensures.value
    ∙ freed_without locks.parts.items locks.cells.entries locks.rising locks.indexed c.args.txs.now locks.waiting.items)
    c.would_free.ensures
