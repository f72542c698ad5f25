use Rattle.std.proofs.Common.{ap, ◌∙◌}
use Rattle.std.specs.Ordering.{nat_cmp}
use Rattle.rc_ids.specs.Tables.{without}
use Rattle.rc_node.proofs.NumberFacts.{differ-distinct}
use Rattle.rc_coord_tables.specs.Takeovers.{TakeoverTable, state_of, IsIn}
use Rattle.rc_coord_tables.proofs.MapFacts.{shown-less, keeps-less}
use Rattle.rc_coord_tables.proofs.takeovers.Takeovers.remove.Goals as goal

pub invariant_of-self : goal.invariant_of-self
invariant_of-self c =
    keeps-less (IsIn c.self.inside.dcs c.self.inside.quorum) c.self.inside.list.entries c.swap_remove-takeover.new.self.entries c.args.tx c.self.invariant
    (differ-distinct c.swap_remove-takeover.new.self.entries c.swap_remove-takeover.ensures.unique) (λ q. c.swap_remove-takeover.ensures.updates.0 q)

pub returns-clause-table : goal.returns-clause-table
returns-clause-table c =
    shown-less state_of c.self.inside.list.entries c.swap_remove-takeover.new.self.entries c.args.tx c.self.invariant.apart
    (differ-distinct c.swap_remove-takeover.new.self.entries c.swap_remove-takeover.ensures.unique) (λ q. c.swap_remove-takeover.ensures.updates.0 q)
    ∙ ap (λ (k : TakeoverTable). without nat_cmp k.table c.args.tx) c.self.view_is
