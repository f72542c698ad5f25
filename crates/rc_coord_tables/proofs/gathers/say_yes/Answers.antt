use Rattle.rc_coord_tables.proofs.GatherFacts.{yes_is, touched_is}
use Rattle.rc_coord_tables.proofs.gathers.say_yes.Goals as goal

pub returns-clause-gather : goal.returns-clause-gather
returns-clause-gather c = yes_is c.args.asked.now.gather c.answer-said.new.self c.args.asked.now.body c.args.shard c.answer-said.ensures.gather

pub returns-clause-asked : goal.returns-clause-asked
returns-clause-asked c = touched_is c.args.asked.now.gather c.answer-said.new.self c.args.shard c.answer-said.ensures.gather
