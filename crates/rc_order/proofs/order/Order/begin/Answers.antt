use Rattle.std.proofs.Common.{◌++◌, ap, ◌∙◌}
use Rattle.rc_order.specs.Orders.{Order}
use Rattle.rc_order.proofs.ListFacts.{all_taken, none_dropped}
use Rattle.rc_order.proofs.ChoiceFacts.{begins}
use Rattle.rc_order.proofs.order.Order.begin.Goals as goal

pub returns-clause-order : goal.returns-clause-order
returns-clause-order c =
    let o = c.self.inside in
    λ cluster coords earlier committed h.
    begins cluster coords earlier committed c.args.self.now h _
    (ap (λ (o : Order). o.weights) c.self.view_is)
    (ap (λ (o : Order). o.votes) c.self.view_is)
    (all_taken o.before c.len-self-inside.result o.txs.keys c.len-self-inside.ensures.len ∙ ap (λ (v : Order). v.earlier ++ v.listed) c.self.view_is)
    (none_dropped c.len-self-inside.result o.txs.keys c.len-self-inside.ensures.len)
