use Rattle.std.proofs.Common.{is_some, ap, ◌∙◌}
use Rattle.std.specs.Ordering.{nat_cmp}
use Rattle.rc_ids.specs.Tables.{found}
use Rattle.rc_node.specs.Numbers.{NumberTable}
use Rattle.rc_node.proofs.NumberFacts.{found-by_number}
use Rattle.rc_node.proofs.numbered.Numbered.has.Goals as goal

pub returns : goal.returns
returns g c =
    c.contains_key.ensures ∙ ap is_some (found-by_number c.self.inside.list.entries c.args.tx c.self.invariant)
    ∙ ap (λ (n : NumberTable g.row.X.Denot). is_some (found nat_cmp n.table c.args.tx)) c.self.view_is
