use Rattle.std.proofs.Common.{sym, ap, subst, ◌∙◌}
use Rattle.std.specs.Ordering.{nat_cmp}
use Rattle.std.proofs.lemmas.Result.{MatchResult-at_ok}
use Rattle.rc_ids.specs.Tables.{put}
use Rattle.rc_coord_tables.specs.Maps.{shown_by, IsList}
use Rattle.rc_coord_tables.proofs.MapFacts.{shown-in_order, keeps-in_order}
use Rattle.rc_takeover.specs.TakeOvers.{KeptTakeOver}
use Rattle.rc_coord_tables.specs.Takeovers.{TakeoverTable, state_of, IsIn}
use Rattle.rc_coord_tables.proofs.takeovers.Takeovers.put.Goals as goal

pub invariant_of-self : goal.invariant_of-self
invariant_of-self c =
    let P : KeptTakeOver → Type 0 = IsIn c.self.inside.dcs c.self.inside.quorum in
    subst (IsList P) (sym (MatchResult-at_ok _ _ _ c.unwrap.ensures c.insert.ensures.entries))
    (keeps-in_order P c.self.inside.list.entries c.args.tx c.args.takeover c.self.invariant
    (subst (λ (k : TakeoverTable). IsIn k.dcs k.weights c.args.takeover) (sym c.self.view_is) c.requires.fit))

pub returns-clause-table : goal.returns-clause-table
returns-clause-table c =
    ap (shown_by state_of) (MatchResult-at_ok _ _ _ c.unwrap.ensures c.insert.ensures.entries)
    ∙ shown-in_order state_of c.self.inside.list.entries c.args.tx c.args.takeover c.self.invariant.apart
    ∙ ap (λ (k : TakeoverTable). put nat_cmp k.table c.args.tx c.args.takeover.state) c.self.view_is
