use Rattle.std.proofs.Common.{ℕ, List, sym, ap, subst, ◌∙◌}
use Rattle.rc_body.specs.Pages.{TxsDiffer}
use Rattle.rc_body.proofs.PartFacts.{TxsDiffer-in_order}
use Rattle.rc_coord_tables.specs.Maps.{shown_by}
use Rattle.rc_coord_tables.proofs.MapFacts.{set_is}
use Rattle.rc_coord_tables.specs.declared.gathers.Asked.{Asked}
use Rattle.rc_coord_tables.specs.Gathers.{GatherTable, gather_of, asked_of, raised_in, asked_again}
use Rattle.rc_coord_tables.proofs.GatherFacts.{raise-there, raise-none, again-there, again-none}
use Rattle.rc_coord_tables.proofs.gathers.Gathers.raise.Goals as goal

pub returns-in-None-clause-table : goal.returns-in-None-clause-table
returns-in-None-clause-table c =
    ap (λ m. shown_by gather_of m.entries) c.get_mut.follows.holds-at-none
    ∙ raise-none c.self.inside.list.entries c.args.tx c.args.ballot c.self.invariant (sym c.in-None.ensures.value)
    ∙ ap (λ (g : GatherTable). raised_in g.table c.args.tx c.args.ballot) c.self.view_is

pub returns-in-None-clause-asked : goal.returns-in-None-clause-asked
returns-in-None-clause-asked c =
    ap (λ m. shown_by asked_of m.entries) c.get_mut.follows.holds-at-none
    ∙ again-none c.self.inside.list.entries 0 c.args.tx 0 c.self.invariant (sym c.in-None.ensures.value)
    ∙ ap (λ (g : GatherTable). asked_again g.asked c.args.tx) c.self.view_is

pub invariant_of-self-2 : goal.invariant_of-self-2
invariant_of-self-2 c =
    let es : List (ℕ × Asked) = c.self.inside.list.entries in
    subst TxsDiffer (sym ((c.get_mut.follows.holds c.raise_to.new.asked).0 ∙ set_is es c.args.tx c.in-Some.asked.now c.raise_to.new.asked (sym c.in-Some.ensures.value)))
    (TxsDiffer-in_order es c.args.tx c.raise_to.new.asked c.self.invariant)

pub returns-clause-table : goal.returns-clause-table
returns-clause-table c =
    ap (shown_by gather_of) (c.get_mut.follows.holds c.raise_to.new.asked).0
    ∙ raise-there c.self.inside.list.entries c.args.tx c.args.ballot c.self.invariant c.in-Some.asked.now c.raise_to.new.asked (sym c.in-Some.ensures.value) c.raise_to.ensures.gather
    ∙ ap (λ (g : GatherTable). raised_in g.table c.args.tx c.args.ballot) c.self.view_is

pub returns-clause-asked : goal.returns-clause-asked
returns-clause-asked c =
    ap (shown_by asked_of) (c.get_mut.follows.holds c.raise_to.new.asked).0
    ∙ again-there c.self.inside.list.entries 0 c.args.tx 0 c.self.invariant c.in-Some.asked.now c.raise_to.new.asked (sym c.in-Some.ensures.value) c.raise_to.ensures.asked
    ∙ ap (λ (g : GatherTable). asked_again g.asked c.args.tx) c.self.view_is
