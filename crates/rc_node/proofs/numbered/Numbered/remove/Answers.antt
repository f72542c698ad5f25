use Rattle.std.proofs.Common.{ap, ◌∙◌}
use Rattle.std.specs.Ordering.{nat_cmp}
use Rattle.rc_ids.specs.Tables.{found, without}
use Rattle.rc_node.specs.Numbers.{NumberTable}
use Rattle.rc_node.proofs.NumberFacts.{found-by_number, differ-distinct, filed-less}
use Rattle.rc_node.proofs.numbered.Numbered.remove.Goals as goal

pub invariant_of-self : goal.invariant_of-self
invariant_of-self g c = differ-distinct c.swap_remove.new.self.entries c.swap_remove.ensures.unique

pub returns-clause-value : goal.returns-clause-value
returns-clause-value g c =
    c.swap_remove.ensures.value ∙ found-by_number c.self.inside.list.entries c.args.tx c.self.invariant
    ∙ ap (λ (n : NumberTable g.row.X.Denot). found nat_cmp n.table c.args.tx) c.self.view_is

pub returns-clause-table : goal.returns-clause-table
returns-clause-table g c =
    filed-less c.self.inside.list.entries c.swap_remove.new.self.entries c.args.tx c.self.invariant (differ-distinct c.swap_remove.new.self.entries c.swap_remove.ensures.unique) (λ q. c.swap_remove.ensures.updates.0 q)
    ∙ ap (λ (n : NumberTable g.row.X.Denot). without nat_cmp n.table c.args.tx) c.self.view_is
