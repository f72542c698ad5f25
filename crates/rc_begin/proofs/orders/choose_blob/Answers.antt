use Rattle.std.proofs.lemmas.Result.{on_ok_weaker}
use Rattle.rc_begin.proofs.LogSteps.{read_of, one_chosen}
use Rattle.rc_begin.proofs.orders.choose_blob.Goals as goal

pub returns-in-Some : goal.returns-in-Some
returns-in-Some c =
    on_ok_weaker c.choose.result
    (one_chosen c.args.order.now c.choose.new.self c.args.blob.now c.in-Some.entry
    (read_of _ _ c.args.blob.now c.in-Some.entry c.as_bytes.ensures c.in_ok-entry.ensures.value c.in-Some.is))
    c.choose.ensures.order
