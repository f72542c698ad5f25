use Rattle.std.proofs.Common.{sym, ap, subst, ◌∙◌}
use Rattle.std.specs.Ordering.{nat_cmp}
use Rattle.std.proofs.lemmas.Result.{MatchResult-at_ok}
use Rattle.rc_ids.specs.Tables.{put}
use Rattle.rc_body.specs.Pages.{TxsDiffer}
use Rattle.rc_body.proofs.PartFacts.{TxsDiffer-in_order}
use Rattle.rc_coord_tables.specs.Maps.{shown_by}
use Rattle.rc_coord_tables.proofs.MapFacts.{shown-in_order}
use Rattle.rc_coord_tables.specs.Gathers.{GatherTable, gather_of, asked_of}
use Rattle.rc_coord_tables.proofs.gathers.Gathers.put.Goals as goal

pub invariant_of-self : goal.invariant_of-self
invariant_of-self c =
    subst TxsDiffer (sym (MatchResult-at_ok _ _ _ c.unwrap.ensures c.insert.ensures.entries)) (TxsDiffer-in_order c.self.inside.list.entries c.args.tx c.args.asked c.self.invariant)

pub returns-clause-table : goal.returns-clause-table
returns-clause-table c =
    ap (shown_by gather_of) (MatchResult-at_ok _ _ _ c.unwrap.ensures c.insert.ensures.entries)
    ∙ shown-in_order gather_of c.self.inside.list.entries c.args.tx c.args.asked c.self.invariant
    ∙ ap (λ (g : GatherTable). put nat_cmp g.table c.args.tx (gather_of c.args.asked)) c.self.view_is

pub returns-clause-asked : goal.returns-clause-asked
returns-clause-asked c =
    ap (shown_by asked_of) (MatchResult-at_ok _ _ _ c.unwrap.ensures c.insert.ensures.entries)
    ∙ shown-in_order asked_of c.self.inside.list.entries c.args.tx c.args.asked c.self.invariant
    ∙ ap (λ (g : GatherTable). put nat_cmp g.asked c.args.tx (asked_of c.args.asked)) c.self.view_is
