use Rattle.std.proofs.Common.{sym, ◌∙◌}
use Rattle.rc_body.proofs.Growing.{is_body-repeated}
use Rattle.rc_body.proofs.unread.grow_body.Goals as goal

pub returns-then-has-clause-err : goal.returns-then-has-clause-err
returns-then-has-clause-err c = λ is. is_body-repeated c.args.body.now c.args.entry (sym c.has.ensures ∙ c.if-has.true)
