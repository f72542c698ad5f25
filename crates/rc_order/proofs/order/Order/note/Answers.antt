use Rattle.std.proofs.lemmas.Result.{MatchResult-at_ok}
use Rattle.rc_body.specs.declared.decision.Decision.TheVariants.{Commit}
use Rattle.rc_record.specs.declared.record.Record.TheVariants.{Accepted}
use Rattle.rc_order.proofs.ChoiceFacts.{notes}
use Rattle.rc_order.proofs.order.Order.note.Goals as goal

pub returns-clause-order : goal.returns-clause-order
returns-clause-order c =
    λ cluster coords now body earlier committed h dc written.
    notes cluster coords now earlier committed c.args.self.now c.add.new.self c.list.new.self c.args.dc (Accepted c.args.tx c.args.ballot (Commit body))
    c.add.ensures.weights
    (MatchResult-at_ok _ _ _ c.unwrap.ensures c.add.ensures.ok)
    c.add.ensures.earlier c.add.ensures.listed
    c.list.ensures.weights c.list.ensures.votes c.list.ensures.earlier
    (MatchResult-at_ok _ _ _ c.unwrap-2.ensures c.list.ensures.ok)
    h dc written
