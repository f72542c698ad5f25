use Rattle.rc_coord_tables.proofs.GatherFacts.{raised_is, raised_asks}
use Rattle.rc_coord_tables.proofs.gathers.raise_to.Goals as goal

pub returns-clause-gather : goal.returns-clause-gather
returns-clause-gather c = raised_is c.args.asked.now.gather c.start-left.new.self c.args.asked.now.body c.args.ballot c.start-left.ensures.gather

pub returns-clause-asked : goal.returns-clause-asked
returns-clause-asked c = raised_asks c.args.asked.now.gather c.start-left.new.self c.args.ballot c.start-left.ensures.gather
