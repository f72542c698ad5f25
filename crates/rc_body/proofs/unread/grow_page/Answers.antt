use Rattle.std.proofs.Common.{sym, ◌∙◌, arith}
use Rattle.rc_body.proofs.Growing.{is_page-full, is_page-repeated}
use Rattle.rc_body.proofs.unread.grow_page.Goals as goal

pub returns-then-len-eq-MOST_ENTRIES-clause-err : goal.returns-then-len-eq-MOST_ENTRIES-clause-err
returns-then-len-eq-MOST_ENTRIES-clause-err c = λ is. is_page-full c.args.page.now c.args.tx c.args.decision (omega (arith, c.len.ensures.count))

pub returns-then-has-clause-err : goal.returns-then-has-clause-err
returns-then-has-clause-err c = λ is. is_page-repeated c.args.page.now c.args.tx c.args.decision (sym c.has.ensures ∙ c.if-has.true)
