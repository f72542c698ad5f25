use Rattle.std.proofs.Common.{subst, sym, ap, ◌∙◌, length}
use mathlib.Core.Option.{some-injective}
use Rattle.rc_ticket.specs.Rule.{Closed}
use Rattle.rc_ticket.proofs.Places.{closes}
use Rattle.rc_ticket.proofs.Steps.{some_item}
use Rattle.rc_ticket.proofs.lock.TicketLock.close.Goals as goal

pub unreachable-requires : goal.unreachable-requires
unreachable-requires g c =
    let r = c.requires.all in
    let f = closes _ _ _ _ r.0 _ _ r.1 r.2 c.close_with-closed.ensures.values.2 in
    c.in_default.not-Some f.0 (some-injective _ _ (sym c.take.ensures.value ∙ f.1))

pub returns : goal.returns
returns g c = record {
  closed = λ cards e.
      let r = c.requires.all in
      let n = length (g.C.Guarded.start c.args.self.board.shared.key) in
      let same = ap (λ m. length m.0.cards) (sym e ∙ r.1) ∙ r.2 in
      let f = closes n g.C.Guarded.fits _ _ cards _ _ e same c.close_with-closed.ensures.values.2 in
      let y = some_item _ _ (some-injective _ _ (sym f.1 ∙ c.take.ensures.value) ∙ c.in-Some.is) in
      subst (λ x. Closed n g.C.Guarded.fits x cards) y f.2;
}
