use Rattle.std.proofs.Common.{◌<◌, ℕ, List, length, sym, ap, ◌∙◌, subst}
use Rattle.std.specs.List.{slice_get}
use Rattle.std.specs.Option.{option_map}
use Rattle.std.specs.Ordering.{nat_cmp}
use Rattle.rc_ids.specs.Tables.{found}
use Rattle.rc_body.specs.declared.entry.Entry.{Entry}
use Rattle.rc_locks.proofs.PartFacts.{taken_at, without_absent}
use Rattle.rc_locks.proofs.halves.take.Goals as goal

pub returns-in_default-clause-left : goal.returns-in_default-clause-left
returns-in_default-clause-left c =
    without_absent c.args.tx c.args.parts.now.items
    (ap (λ (ps : List (ℕ × List Entry)). found nat_cmp ps c.args.tx) (sym c.deref.ensures.value) ∙ c.in_default.ensures.none)

pub returns-clause-taken : goal.returns-clause-taken
returns-clause-taken c =
    let same = c.deref.ensures.value in
    taken_at c.args.parts.now.items c.in-Some.place c.remove-part.result
    (subst (λ (ps : List (ℕ × List Entry)). c.in-Some.place < length ps) same c.in-Some.ensures.within) c.remove-part.ensures.value
    ∙ ap (λ (ps : List (ℕ × List Entry)). option_map (λ (p : ℕ × List Entry). p.1) (slice_get ps c.in-Some.place)) (sym same)
    ∙ sym c.in-Some.ensures.value
    ∙ ap (λ (ps : List (ℕ × List Entry)). found nat_cmp ps c.args.tx) same
