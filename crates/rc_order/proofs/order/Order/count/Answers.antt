use Rattle.std.proofs.Common.{Option, ap, ◌∙◌}
use Rattle.std.proofs.lemmas.Result.{on_ok_weaker}
use Rattle.rc_ids.specs.Tables.{maybe}
use Rattle.rc_order.specs.Orders.{Race, with_vote}
use Rattle.rc_order.proofs.VoteFacts.{counts}
use Rattle.rc_order.proofs.order.Order.count.Goals as goal

pub returns-in-Some-clause-counted : goal.returns-in-Some-clause-counted
returns-in-Some-clause-counted c =
    on_ok_weaker c.add.result
    (λ votes cluster coords now h dc written.
    counts cluster coords now c.args.self.now c.add.new.self c.args.dc c.args.written.now (votes ∙ ap (λ (v : Option Race). maybe v c.args.self.now.votes (λ x. with_vote c.args.self.now.votes c.args.dc x.0 x.1)) c.in-Some.ensures) h dc written)
    c.add.ensures.ok

pub returns-in-None-clause-counted : goal.returns-in-None-clause-counted
returns-in-None-clause-counted c =
    λ cluster coords now h dc written.
    counts cluster coords now c.args.self.now c.args.self.now c.args.dc c.args.written.now (ap (λ (v : Option Race). maybe v c.args.self.now.votes (λ x. with_vote c.args.self.now.votes c.args.dc x.0 x.1)) c.in-None.ensures) h dc written
