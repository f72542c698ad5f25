use Rattle.std.proofs.Common.{ℕ, List, sym, ap, subst, ◌∙◌}
use Rattle.rc_coord_tables.specs.Maps.{shown_by, IsList}
use Rattle.rc_coord_tables.proofs.MapFacts.{keeps-set, all-found}
use Rattle.rc_takeover.specs.TakeOvers.{KeptTakeOver}
use Rattle.rc_coord_tables.specs.Takeovers.{TakeoverTable, state_of, IsIn, heard_in}
use Rattle.rc_coord_tables.proofs.TakeoverFacts.{hear-there, hear-none, fits-after}
use Rattle.rc_coord_tables.proofs.takeovers.Takeovers.hear.Goals as goal

pub returns-in-None-clause-table : goal.returns-in-None-clause-table
returns-in-None-clause-table c =
    ap (λ m. shown_by state_of m.entries) c.get_mut.follows.holds-at-none
    ∙ hear-none c.self.inside.dcs c.self.inside.quorum c.self.inside.list.entries 0 c.args.tx c.args.dc c.args.report c.self.invariant (sym c.in-None.ensures.value)
    ∙ ap (λ (k : TakeoverTable). heard_in k c.args.tx c.args.dc c.args.report) c.self.view_is

pub invariant_of-self-2 : goal.invariant_of-self-2
invariant_of-self-2 c =
    let P : KeptTakeOver → Type 0 = IsIn c.self.inside.dcs c.self.inside.quorum in
    let es : List (ℕ × KeptTakeOver) = c.self.inside.list.entries in
    let there = sym c.in-Some.ensures.value in
    subst (IsList P) (sym (c.get_mut.follows.holds c.hear.new.takeover).0)
    (keeps-set P es c.args.tx c.in-Some.takeover.now c.hear.new.takeover c.self.invariant there
    (fits-after c.self.inside.dcs c.self.inside.quorum c.in-Some.takeover.now c.hear.new.takeover c.args.dc c.args.report
    (all-found P es c.args.tx c.in-Some.takeover.now c.self.invariant.fit there) c.hear.ensures))

pub returns-clause-table : goal.returns-clause-table
returns-clause-table c =
    let P : KeptTakeOver → Type 0 = IsIn c.self.inside.dcs c.self.inside.quorum in
    let es : List (ℕ × KeptTakeOver) = c.self.inside.list.entries in
    let there = sym c.in-Some.ensures.value in
    ap (shown_by state_of) (c.get_mut.follows.holds c.hear.new.takeover).0
    ∙ hear-there c.self.inside.dcs c.self.inside.quorum es 0 c.args.tx c.args.dc c.args.report c.self.invariant c.in-Some.takeover.now c.hear.new.takeover there
    (all-found P es c.args.tx c.in-Some.takeover.now c.self.invariant.fit there) c.hear.ensures
    ∙ ap (λ (k : TakeoverTable). heard_in k c.args.tx c.args.dc c.args.report) c.self.view_is
