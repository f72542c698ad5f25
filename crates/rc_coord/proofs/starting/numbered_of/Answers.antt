use Rattle.std.proofs.Common.{◌≡◌, [], sym, ap, ◌∙◌}
use Rattle.rc_record.specs.InOrder.{filed}
use Rattle.rc_coord.proofs.StartFacts.{filed-sorted}
use Rattle.rc_coord.proofs.starting.numbered_of.Goals as goal

pub returns : goal.returns
returns g c =
    let nil : c.loop-tx.tx-iterator ≡ [] = c.in-None.ensures.steps.0 in
    sym (ap (filed c.loop-tx.numbered.table) nil) ∙ c.loop-tx.invariant.table ∙ filed-sorted c.args.map.entries c.len.ensures.ordered
