use Rattle.std.proofs.Common.{sym, ap, ◌∙◌}
use Rattle.std.specs.Ordering.{nat_cmp}
use Rattle.std.specs.Option.{option_map}
use Rattle.rc_ids.specs.Tables.{found}
use Rattle.rc_coord_tables.proofs.MapFacts.{shown-found}
use Rattle.rc_coord_tables.specs.Gathers.{GatherTable, gather_of, asked_of}
use Rattle.rc_coord_tables.proofs.gathers.Gathers.get.Goals as goal

pub returns-clause-table : goal.returns-clause-table
returns-clause-table c =
    ap (option_map gather_of) c.get.ensures.value ∙ sym (shown-found gather_of c.self.inside.list.entries c.args.tx c.self.invariant)
    ∙ ap (λ (g : GatherTable). found nat_cmp g.table c.args.tx) c.self.view_is

pub returns-clause-asked : goal.returns-clause-asked
returns-clause-asked c =
    ap (option_map asked_of) c.get.ensures.value ∙ sym (shown-found asked_of c.self.inside.list.entries c.args.tx c.self.invariant)
    ∙ ap (λ (g : GatherTable). found nat_cmp g.asked c.args.tx) c.self.view_is
