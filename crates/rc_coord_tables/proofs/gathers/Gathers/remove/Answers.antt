use Rattle.std.proofs.Common.{ap, ◌∙◌}
use Rattle.std.specs.Ordering.{nat_cmp}
use Rattle.rc_ids.specs.Tables.{without}
use Rattle.rc_node.proofs.NumberFacts.{differ-distinct}
use Rattle.rc_coord_tables.specs.Gathers.{GatherTable, gather_of, asked_of}
use Rattle.rc_coord_tables.proofs.MapFacts.{shown-less}
use Rattle.rc_coord_tables.proofs.gathers.Gathers.remove.Goals as goal

pub invariant_of-self : goal.invariant_of-self
invariant_of-self c = differ-distinct c.swap_remove-gather.new.self.entries c.swap_remove-gather.ensures.unique

pub returns-clause-table : goal.returns-clause-table
returns-clause-table c =
    shown-less gather_of c.self.inside.list.entries c.swap_remove-gather.new.self.entries c.args.tx c.self.invariant
    (differ-distinct c.swap_remove-gather.new.self.entries c.swap_remove-gather.ensures.unique) (λ q. c.swap_remove-gather.ensures.updates.0 q)
    ∙ ap (λ (g : GatherTable). without nat_cmp g.table c.args.tx) c.self.view_is

pub returns-clause-asked : goal.returns-clause-asked
returns-clause-asked c =
    shown-less asked_of c.self.inside.list.entries c.swap_remove-gather.new.self.entries c.args.tx c.self.invariant
    (differ-distinct c.swap_remove-gather.new.self.entries c.swap_remove-gather.ensures.unique) (λ q. c.swap_remove-gather.ensures.updates.0 q)
    ∙ ap (λ (g : GatherTable). without nat_cmp g.asked c.args.tx) c.self.view_is
