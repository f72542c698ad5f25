use Rattle.rc_begin.proofs.LogOrders.{names_are}
use Rattle.rc_begin.proofs.named.names_of_logs.Goals as goal

pub returns-clause-names : goal.returns-clause-names
returns-clause-names c =
    names_are c.args.coord_logs.now c.args.shard_logs.now _ _ _ c.new-named.ensures.empty c.in_ok-add_all.ensures.names c.in_ok-add_all-2.ensures.names
