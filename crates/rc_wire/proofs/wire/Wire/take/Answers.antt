use Rattle.std.proofs.Common.{sym, ap, ◌∙◌, subst, slice_get}
use Rattle.rc_wire.specs.Standings.{standing}
use Rattle.rc_wire.specs.Turns.{IsTurn, Takes}
use Rattle.rc_wire.proofs.Turning.{take_follows, is_turn, takes}
use Rattle.rc_wire.specs.declared.pass.Known.{Known}
use Rattle.rc_wire.specs.Places.{known_at}
use Rattle.rc_wire.proofs.Dealing.{is_served, served_me}
use Rattle.rc_wire.proofs.wire.Wire.take.Goals as goal

pub end-requires-clause-served : goal.end-requires-clause-served
end-requires-clause-served g c =
    let names = g.W.WireName.names in
    let x = known_at names c.pass.inside.at in
    let seat = c.pass.inside.at.seat in
    let n = c.begin-ticket.result.0 in
    let held = c.begin-ticket.result.1 in
    let left = c.take-taken.new.self in
    let fits = c.begin-ticket.ensures.fits in
    let at = ap (slice_get held.parties) c.begin-ticket.ensures.seat ∙ fits.party in
    let follows = take_follows n held left seat x fits c.args.want c.take-taken.result (ap (λ (y : Known). (standing y.mine).unanswered) c.pass.view_is ∙ c.requires) (c.take-taken.ensures x.party at) in
    is_served names c.pass.inside.at c.begin-ticket.new.at n held left x c.pass.invariant.knows c.begin-ticket.ensures.seat c.begin-ticket.ensures.served fits follows

pub returns-clause-turn : goal.returns-clause-turn
returns-clause-turn g c =
    let names = g.W.WireName.names in
    let x = known_at names c.pass.inside.at in
    let seat = c.pass.inside.at.seat in
    let n = c.begin-ticket.result.0 in
    let held = c.begin-ticket.result.1 in
    let left = c.take-taken.new.self in
    let fits = c.begin-ticket.ensures.fits in
    let at = ap (slice_get held.parties) c.begin-ticket.ensures.seat ∙ fits.party in
    let follows = take_follows n held left seat x fits c.args.want c.take-taken.result (ap (λ (y : Known). (standing y.mine).unanswered) c.pass.view_is ∙ c.requires) (c.take-taken.ensures x.party at) in
    let known = c.end.ensures.known x held (served_me c.pass.inside.at c.begin-ticket.new.at n held x c.begin-ticket.ensures.seat c.begin-ticket.ensures.served) in
    subst (λ (y : Known × Known). IsTurn y.0 y.1) (λ j. (c.pass.view_is j, sym known j)) (is_turn n held left seat x fits follows)

pub returns-clause-taken : goal.returns-clause-taken
returns-clause-taken g c =
    let names = g.W.WireName.names in
    let x = known_at names c.pass.inside.at in
    let seat = c.pass.inside.at.seat in
    let n = c.begin-ticket.result.0 in
    let held = c.begin-ticket.result.1 in
    let left = c.take-taken.new.self in
    let fits = c.begin-ticket.ensures.fits in
    let at = ap (slice_get held.parties) c.begin-ticket.ensures.seat ∙ fits.party in
    let follows = take_follows n held left seat x fits c.args.want c.take-taken.result (ap (λ (y : Known). (standing y.mine).unanswered) c.pass.view_is ∙ c.requires) (c.take-taken.ensures x.party at) in
    let known = c.end.ensures.known x held (served_me c.pass.inside.at c.begin-ticket.new.at n held x c.begin-ticket.ensures.seat c.begin-ticket.ensures.served) in
    subst (λ (y : Known × Known). Takes y.0 c.args.want c.take-taken.result y.1) (λ j. (c.pass.view_is j, sym known j)) (takes n held left seat x fits c.args.want c.take-taken.result (c.take-taken.ensures x.party at))
