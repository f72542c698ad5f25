use Rattle.rc_config.proofs.Transactions.{lines_chain, state_is}
use Rattle.rc_config.proofs.generator.push_transaction.Goals as goal

pub returns-clause-lines : goal.returns-clause-lines
returns-clause-lines c =
    lines_chain c.args.number c.args.draws.now c.below.new.self c.below-2.new.self c.below-3.new.self c.below.result c.below-2.result c.below-3.result _ _ _ _ _ _ _ _ _ _
    c.below.ensures.state c.below.ensures.draw c.key_of.ensures c.below-2.ensures.state c.below-2.ensures.draw c.key_of-key.ensures
    c.below-3.ensures.state c.below-3.ensures.draw c.in_ok-value_of.ensures
    c.in_ok-push.ensures c.in_ok-push-2.ensures c.in_ok-push-3.ensures c.in_ok-push-4.ensures c.in_ok-push-5.ensures c.in_ok-push_settle.ensures

pub returns-clause-draws : goal.returns-clause-draws
returns-clause-draws c = let last = state_is c.args.draws.now in (cc)
