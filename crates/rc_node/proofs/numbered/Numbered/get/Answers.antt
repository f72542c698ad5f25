use Rattle.std.proofs.Common.{ap, ◌∙◌}
use Rattle.std.specs.Ordering.{nat_cmp}
use Rattle.rc_ids.specs.Tables.{found}
use Rattle.rc_node.specs.Numbers.{NumberTable}
use Rattle.rc_node.proofs.NumberFacts.{found-by_number}
use Rattle.rc_node.proofs.numbered.Numbered.get.Goals as goal

pub returns : goal.returns
returns g c =
    c.get.ensures.value ∙ found-by_number c.self.inside.list.entries c.args.tx c.self.invariant
    ∙ ap (λ (n : NumberTable g.row.X.Denot). found nat_cmp n.table c.args.tx) c.self.view_is
