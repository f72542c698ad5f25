use Rattle.std.proofs.Common.{◌≡◌, ℕ, List, nat_eq, slice_set, ap, sym, subst, ◌∙◌}
use Rattle.indexmap.specs.IndexMap.{insert_entry as in_order}
use Rattle.rc_body.specs.declared.entry.Entry.{Entry}
use Rattle.rc_body.specs.Pages.{TxsDiffer}
use Rattle.rc_body.proofs.PartFacts.{IsPlace, found_place, no_place, in_order-at, in_order-last, TxsDiffer-in_order}
use Rattle.rc_body.proofs.parts.Parts.put.Goals as goal

pub invariant_of-self : goal.invariant_of-self
invariant_of-self c =
    let at : IsPlace c.self.inside.entries.items c.args.tx c.in-Some.place =
    subst (λ (xs : List (ℕ × List Entry)). IsPlace xs c.args.tx c.in-Some.place) (sym c.self.view_is)
    (found_place c.args.self.now c.args.tx c.in-Some.place (sym c.place.ensures ∙ c.in-Some.is)) in
    subst TxsDiffer (in_order-at c.self.inside.entries.items c.args.tx c.in-Some.place c.args.body at)
    (TxsDiffer-in_order c.self.inside.entries.items c.args.tx c.args.body c.self.invariant)

pub push-requires : goal.push-requires
push-requires c = no_place c.args.self.now c.args.tx (sym c.place.ensures ∙ c.in-None.is)

pub returns-in-Some-clause-ok : goal.returns-in-Some-clause-ok
returns-in-Some-clause-ok c =
    ap (λ (xs : List (ℕ × List Entry)). slice_set xs c.in-Some.place (c.args.tx, c.args.body)) c.self.view_is
    ∙ sym (in_order-at c.args.self.now c.args.tx c.in-Some.place c.args.body
    (found_place c.args.self.now c.args.tx c.in-Some.place (sym c.place.ensures ∙ c.in-Some.is)))

pub returns-in-None-clause-ok : goal.returns-in-None-clause-ok
returns-in-None-clause-ok c =
    let last = in_order-last c.args.self.now c.args.tx c.args.body (no_place c.args.self.now c.args.tx (sym c.place.ensures ∙ c.in-None.is)) in
    rw last c.push.ensures.ok
