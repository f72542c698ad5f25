use Rattle.std.proofs.Common.{[], sym, ap, subst, ◌∙◌}
use Rattle.std.specs.Ordering.{nat_cmp}
use Rattle.std.proofs.lemmas.Result.{MatchResult-at_ok}
use Rattle.rc_ids.specs.Tables.{put}
use Rattle.rc_body.specs.Pages.{TxsDiffer}
use Rattle.rc_body.proofs.PartFacts.{TxsDiffer-in_order}
use Rattle.rc_record.specs.InOrder.{filed}
use Rattle.rc_record.proofs.ByNumber.{filed-in_order}
use Rattle.rc_coord_tables.specs.Places.{PlaceTable}
use Rattle.rc_coord_tables.proofs.places.Places.put.Goals as goal

pub invariant_of-self : goal.invariant_of-self
invariant_of-self c =
    subst TxsDiffer (sym (MatchResult-at_ok _ _ _ c.unwrap.ensures c.insert.ensures.entries)) (TxsDiffer-in_order c.self.inside.list.entries c.args.dc c.args.place c.self.invariant)

pub returns : goal.returns
returns c =
    ap (filed []) (MatchResult-at_ok _ _ _ c.unwrap.ensures c.insert.ensures.entries)
    ∙ filed-in_order [] c.self.inside.list.entries c.args.dc c.args.place c.self.invariant
    ∙ ap (λ (p : PlaceTable). put nat_cmp p.table c.args.dc c.args.place) c.self.view_is
