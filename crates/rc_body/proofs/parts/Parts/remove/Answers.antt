use Rattle.std.proofs.Common.{◌≡◌, ℕ, suc, List, ◌++◌, take, drop, ap, sym, subst, ◌∙◌}
use Rattle.std.specs.Ordering.{nat_cmp}
use Rattle.rc_ids.specs.Tables.{without}
use Rattle.rc_body.specs.declared.entry.Entry.{Entry}
use Rattle.rc_body.specs.Pages.{TxsDiffer}
use Rattle.rc_body.proofs.PartFacts.{IsPlace, found_place, no_place, without-at, without-none, TxsDiffer-without}
use Rattle.rc_body.proofs.parts.Parts.remove.Goals as goal

pub invariant_of-self : goal.invariant_of-self
invariant_of-self c =
    let at : IsPlace c.self.inside.entries.items c.args.tx c.in-Some.place =
    subst (λ (xs : List (ℕ × List Entry)). IsPlace xs c.args.tx c.in-Some.place) (sym c.self.view_is)
    (found_place c.args.self.now c.args.tx c.in-Some.place (sym c.place.ensures ∙ c.in-Some.is)) in
    subst TxsDiffer (without-at c.self.inside.entries.items c.args.tx c.in-Some.place at ∙ sym c.remove.ensures.items)
    (TxsDiffer-without c.self.inside.entries.items c.args.tx c.self.invariant)

pub returns-in-Some : goal.returns-in-Some
returns-in-Some c =
    c.remove.ensures.items
    ∙ ap (λ (xs : List (ℕ × List Entry)). take c.in-Some.place xs ++ drop (suc c.in-Some.place) xs) c.self.view_is
    ∙ sym (without-at c.args.self.now c.args.tx c.in-Some.place
    (found_place c.args.self.now c.args.tx c.in-Some.place (sym c.place.ensures ∙ c.in-Some.is)))

pub returns-in_default : goal.returns-in_default
returns-in_default c = sym (without-none c.args.self.now c.args.tx (no_place c.args.self.now c.args.tx (sym c.place.ensures ∙ c.in_default.is)))
