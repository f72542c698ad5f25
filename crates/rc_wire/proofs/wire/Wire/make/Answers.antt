use Rattle.std.proofs.Common.{ℕ, length, sym, ap, ◌∙◌, subst, arith}
use Rattle.rc_ticket.specs.Cards.{dealt}
use Rattle.rc_ticket.specs.Rule.{CardsFit}
use Rattle.rc_wire.specs.Chronicle.{Chronicle}
use Rattle.rc_wire.specs.Parties.{all_differ}
use Rattle.rc_wire.specs.Passes.{Fits, all_known}
use Rattle.rc_wire.proofs.Knowing.{fits_at_first, known_length}
use Rattle.rc_wire.proofs.wire.Wire.make.Goals as goal

pub new-requires-2-clause-few : goal.new-requires-2-clause-few
new-requires-2-clause-few g c =
    let a = known_length c.in_ok-names.names 0 c.in_ok-names.names.parties in
    let b = ap (λ (z : Chronicle). length z.parties) c.in_ok-names.ensures in
    let d = c.if-parties-gt-MOST_PARTIES.false in
    omega arith

pub new-requires-2-clause-fit : goal.new-requires-2-clause-fit
new-requires-2-clause-fit g c =
    let names = c.in_ok-names.names in
    let is = c.in_ok-names.ensures in
    let hub = c.in_ok-hub.ensures ∙ sym is in
    let few = known_length names 0 names.parties in
    subst (λ (y : ℕ × Chronicle). CardsFit y.0 Fits 0 y.1 (dealt 0 (all_known names))) (λ j. (sym few j, sym hub j))
    (fits_at_first names (ap (λ (z : Chronicle). z.turns) is) (ap (λ (z : Chronicle). all_differ z.parties) is ∙ c.requires.differ))
