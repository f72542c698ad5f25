use Rattle.std.proofs.Common.{Option, ap, ◌∙◌}
use Rattle.std.proofs.lemmas.Result.{on_ok_weaker}
use Rattle.rc_ids.specs.Tables.{maybe}
use Rattle.rc_order.specs.Orders.{Race, with_choice}
use Rattle.rc_order.proofs.ChoiceFacts.{chooses}
use Rattle.rc_order.proofs.order.Order.choose.Goals as goal

pub returns-in-Some-clause-order : goal.returns-in-Some-clause-order
returns-in-Some-clause-order c =
    let o = c.args.self.now in
    on_ok_weaker c.list.result
    (λ listed cluster coords earlier committed h.
    chooses cluster coords earlier committed c.args.self.now h c.list.new.self c.args.written.now
    c.list.ensures.weights c.list.ensures.votes c.list.ensures.earlier (listed ∙ ap (λ (v : Option Race). maybe v o.listed (λ x. with_choice o.weights o.votes o.earlier o.listed x.0 x.1)) c.in-Some.ensures))
    c.list.ensures.ok
