use Rattle.std.proofs.Common.{ap, ◌∙◌}
use Rattle.rc_coord_tables.specs.Votes.{VoteTable}
use Rattle.rc_coord.proofs.RowFacts.{fits-without}
use Rattle.rc_coord.proofs.tables.forget.Goals as goal

pub returns-clause-fit : goal.returns-clause-fit
returns-clause-fit c = λ layout fit. record {
  votes = ap (λ (v : VoteTable). v.weights) c.remove-3.ensures ∙ fit.votes;
  dcs = c.remove-2.ensures.dcs ∙ fit.dcs;
  weights = c.remove-2.ensures.weights ∙ fit.weights;
  gathers = fits-without layout c.args.tx c.args.tables.now.gathers c.remove.new.self fit.gathers c.remove.ensures.table c.remove.ensures.asked;
}
