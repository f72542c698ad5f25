use Rattle.std.proofs.Common.{ℕ, Option, ap, ◌∙◌}
use Rattle.std.specs.Ordering.{nat_cmp}
use Rattle.rc_ids.specs.Tables.{found, maybe}
use Rattle.rc_coord_tables.specs.Places.{PlaceTable}
use Rattle.rc_node.proofs.NumberFacts.{found-by_number}
use Rattle.rc_coord_tables.proofs.places.Places.get.Goals as goal

pub returns-in-Some : goal.returns-in-Some
returns-in-Some c =
    ap (λ (o : Option ℕ). maybe o 0 (λ place. place))
    (c.in-Some.ensures.value ∙ found-by_number c.self.inside.list.entries c.args.dc c.self.invariant ∙ ap (λ (p : PlaceTable). found nat_cmp p.table c.args.dc) c.self.view_is)

pub returns-in-None : goal.returns-in-None
returns-in-None c =
    ap (λ (o : Option ℕ). maybe o 0 (λ place. place))
    (c.in-None.ensures.value ∙ found-by_number c.self.inside.list.entries c.args.dc c.self.invariant ∙ ap (λ (p : PlaceTable). found nat_cmp p.table c.args.dc) c.self.view_is)
