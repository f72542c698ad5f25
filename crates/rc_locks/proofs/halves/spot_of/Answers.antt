use Rattle.std.proofs.Common.{◌≤◌, ◌<◌, ◌==◌, ℕ, List, get_or, length, remove, sym, ap, ◌∙◌, subst, arith}
use Rattle.std.specs.List.{slice_get}
use Rattle.std.specs.Option.{option_map}
use Rattle.rc_body.specs.declared.entry.Entry.{Entry}
use Rattle.rc_locks.proofs.PartFacts.{spot_found, spot_other, past_all}
use Rattle.rc_locks.proofs.halves.spot_of.Goals as goal

pub returns-then-place-parts-clause-none : goal.returns-then-place-parts-clause-none
returns-then-place-parts-clause-none c =
    past_all c.args.tx c.args.parts.now (subst (λ (i : ℕ). length c.args.parts.now ≤ i) c.place_of-place.ensures.place c.if-place-parts.true)

pub returns-then-eq-clause-value : goal.returns-then-eq-clause-value
returns-then-eq-clause-value c =
    let parts : List (ℕ × List Entry) = c.args.parts.now in
    let at = c.place_of-place.ensures.place in
    (spot_found c.args.tx parts c.index-parts-place.result
    (subst (λ (i : ℕ). i < length parts) at (let lt = c.if-place-parts.false in omega arith))
    (c.index-parts-place.is ∙ ap (λ (i : ℕ). get_or parts i c.index-parts-place.result) at)
    (ap (λ (p : ℕ × List Entry). p.0 == c.args.tx) c.index-parts-place.is ∙ sym c.eq.ensures ∙ c.if-eq.true)).0
    ∙ ap (λ (i : ℕ). option_map (λ (p : ℕ × List Entry). p.1) (slice_get parts i)) (sym at)

pub returns-then-eq-clause-rest : goal.returns-then-eq-clause-rest
returns-then-eq-clause-rest c =
    let parts : List (ℕ × List Entry) = c.args.parts.now in
    let at = c.place_of-place.ensures.place in
    ap (remove parts) at
    ∙ (spot_found c.args.tx parts c.index-parts-place.result
    (subst (λ (i : ℕ). i < length parts) at (let lt = c.if-place-parts.false in omega arith))
    (c.index-parts-place.is ∙ ap (λ (i : ℕ). get_or parts i c.index-parts-place.result) at)
    (ap (λ (p : ℕ × List Entry). p.0 == c.args.tx) c.index-parts-place.is ∙ sym c.eq.ensures ∙ c.if-eq.true)).1

pub returns-clause-none : goal.returns-clause-none
returns-clause-none c =
    let parts : List (ℕ × List Entry) = c.args.parts.now in
    let at = c.place_of-place.ensures.place in
    spot_other c.args.tx parts c.index-parts-place.result c.requires
    (subst (λ (i : ℕ). i < length parts) at (let lt = c.if-place-parts.false in omega arith))
    (c.index-parts-place.is ∙ ap (λ (i : ℕ). get_or parts i c.index-parts-place.result) at)
    (ap (λ (p : ℕ × List Entry). p.0 == c.args.tx) c.index-parts-place.is ∙ sym c.eq.ensures ∙ c.if-eq.false)
