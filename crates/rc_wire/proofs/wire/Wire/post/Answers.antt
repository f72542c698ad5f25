use Rattle.std.specs.Prelude.{OnOk, OnErr}
use Rattle.std.proofs.Common.{◌≡◌, true, false, sym, ap, ◌∙◌, subst, slice_get}
use Rattle.rc_wire.specs.Standings.{standing, may_end}
use Rattle.rc_wire.specs.declared.turn.Act.TheVariants.{Posted}
use Rattle.rc_wire.specs.Turns.{IsTurn, HasRoom, Posts}
use Rattle.rc_wire.proofs.Turning.{post_follows, on_ok, is_turn, posts, unsent, too_much, no_memory}
use Rattle.rc_wire.specs.declared.pass.Known.{Known}
use Rattle.rc_wire.specs.Places.{known_at}
use Rattle.rc_wire.proofs.Dealing.{is_served, served_me}
use Rattle.rc_wire.proofs.wire.Wire.post.Goals as goal

pub end-requires-clause-served : goal.end-requires-clause-served
end-requires-clause-served g c =
    let names = g.W.WireName.names in
    let x = known_at names c.pass.inside.at in
    let seat = c.pass.inside.at.seat in
    let n = c.begin-ticket.result.0 in
    let held = c.begin-ticket.result.1 in
    let left = c.post-posted.new.self in
    let fits = c.begin-ticket.ensures.fits in
    let at = ap (slice_get held.parties) c.begin-ticket.ensures.seat ∙ fits.party in
    let follows = post_follows n held left seat x fits c.post-posted.result c.args.end c.args.out.now (ap (λ (y : Known). may_end y.party (standing y.mine) c.args.end) c.pass.view_is ∙ c.requires) (on_ok c.post-posted.result (λ more. more x.party at) c.post-posted.ensures.ok) c.post-posted.ensures.err in
    is_served names c.pass.inside.at c.begin-ticket.new.at n held left x c.pass.invariant.knows c.begin-ticket.ensures.seat c.begin-ticket.ensures.served fits follows

pub returns-clause-turn : goal.returns-clause-turn
returns-clause-turn g c =
    let names = g.W.WireName.names in
    let x = known_at names c.pass.inside.at in
    let seat = c.pass.inside.at.seat in
    let n = c.begin-ticket.result.0 in
    let held = c.begin-ticket.result.1 in
    let left = c.post-posted.new.self in
    let fits = c.begin-ticket.ensures.fits in
    let at = ap (slice_get held.parties) c.begin-ticket.ensures.seat ∙ fits.party in
    let follows = post_follows n held left seat x fits c.post-posted.result c.args.end c.args.out.now (ap (λ (y : Known). may_end y.party (standing y.mine) c.args.end) c.pass.view_is ∙ c.requires) (on_ok c.post-posted.result (λ more. more x.party at) c.post-posted.ensures.ok) c.post-posted.ensures.err in
    let known = c.end.ensures.known x held (served_me c.pass.inside.at c.begin-ticket.new.at n held x c.begin-ticket.ensures.seat c.begin-ticket.ensures.served) in
    subst (λ (y : Known × Known). IsTurn y.0 y.1) (λ j. (c.pass.view_is j, sym known j)) (is_turn n held left seat x fits follows)

pub returns-clause-ok : goal.returns-clause-ok
returns-clause-ok g c =
    let names = g.W.WireName.names in
    let x = known_at names c.pass.inside.at in
    let seat = c.pass.inside.at.seat in
    let n = c.begin-ticket.result.0 in
    let held = c.begin-ticket.result.1 in
    let left = c.post-posted.new.self in
    let fits = c.begin-ticket.ensures.fits in
    let at = ap (slice_get held.parties) c.begin-ticket.ensures.seat ∙ fits.party in
    let follows = post_follows n held left seat x fits c.post-posted.result c.args.end c.args.out.now (ap (λ (y : Known). may_end y.party (standing y.mine) c.args.end) c.pass.view_is ∙ c.requires) (on_ok c.post-posted.result (λ more. more x.party at) c.post-posted.ensures.ok) c.post-posted.ensures.err in
    let known = c.end.ensures.known x held (served_me c.pass.inside.at c.begin-ticket.new.at n held x c.begin-ticket.ensures.seat c.begin-ticket.ensures.served) in
    subst (λ (y : Known × Known). OnOk c.post-posted.result (Posts y.0 (Posted c.args.end c.args.out.now) c.args.out.now y.1)) (λ j. (c.pass.view_is j, sym known j)) (posts n held left seat x fits c.post-posted.result c.args.end c.args.out.now c.post-posted.ensures.full (on_ok c.post-posted.result (λ more. more x.party at) c.post-posted.ensures.ok))

pub returns-clause-err : goal.returns-clause-err
returns-clause-err g c =
    let names = g.W.WireName.names in
    let x = known_at names c.pass.inside.at in
    let seat = c.pass.inside.at.seat in
    let n = c.begin-ticket.result.0 in
    let held = c.begin-ticket.result.1 in
    let left = c.post-posted.new.self in
    let fits = c.begin-ticket.ensures.fits in
    let at = ap (slice_get held.parties) c.begin-ticket.ensures.seat ∙ fits.party in
    let follows = post_follows n held left seat x fits c.post-posted.result c.args.end c.args.out.now (ap (λ (y : Known). may_end y.party (standing y.mine) c.args.end) c.pass.view_is ∙ c.requires) (on_ok c.post-posted.result (λ more. more x.party at) c.post-posted.ensures.ok) c.post-posted.ensures.err in
    let known = c.end.ensures.known x held (served_me c.pass.inside.at c.begin-ticket.new.at n held x c.begin-ticket.ensures.seat c.begin-ticket.ensures.served) in
    subst (λ (y : Known × Known). OnErr c.post-posted.result (y.1.mine ≡ y.0.mine)) (λ j. (c.pass.view_is j, sym known j)) (unsent n held left seat x fits c.post-posted.result c.post-posted.ensures.err)

pub returns-clause-full : goal.returns-clause-full
returns-clause-full g c is =
    let names = g.W.WireName.names in
    let x = known_at names c.pass.inside.at in
    let seat = c.pass.inside.at.seat in
    let n = c.begin-ticket.result.0 in
    let held = c.begin-ticket.result.1 in
    let left = c.post-posted.new.self in
    let fits = c.begin-ticket.ensures.fits in
    let at = ap (slice_get held.parties) c.begin-ticket.ensures.seat ∙ fits.party in
    let follows = post_follows n held left seat x fits c.post-posted.result c.args.end c.args.out.now (ap (λ (y : Known). may_end y.party (standing y.mine) c.args.end) c.pass.view_is ∙ c.requires) (on_ok c.post-posted.result (λ more. more x.party at) c.post-posted.ensures.ok) c.post-posted.ensures.err in
    let known = c.end.ensures.known x held (served_me c.pass.inside.at c.begin-ticket.new.at n held x c.begin-ticket.ensures.seat c.begin-ticket.ensures.served) in
    subst (λ (y : Known). HasRoom y.seen c.args.out.now false) (sym known) (too_much n held left seat x fits c.post-posted.result c.args.out.now c.post-posted.ensures.full c.post-posted.ensures.err is)

pub returns-clause-no_memory : goal.returns-clause-no_memory
returns-clause-no_memory g c is =
    let names = g.W.WireName.names in
    let x = known_at names c.pass.inside.at in
    let seat = c.pass.inside.at.seat in
    let n = c.begin-ticket.result.0 in
    let held = c.begin-ticket.result.1 in
    let left = c.post-posted.new.self in
    let fits = c.begin-ticket.ensures.fits in
    let at = ap (slice_get held.parties) c.begin-ticket.ensures.seat ∙ fits.party in
    let follows = post_follows n held left seat x fits c.post-posted.result c.args.end c.args.out.now (ap (λ (y : Known). may_end y.party (standing y.mine) c.args.end) c.pass.view_is ∙ c.requires) (on_ok c.post-posted.result (λ more. more x.party at) c.post-posted.ensures.ok) c.post-posted.ensures.err in
    let known = c.end.ensures.known x held (served_me c.pass.inside.at c.begin-ticket.new.at n held x c.begin-ticket.ensures.seat c.begin-ticket.ensures.served) in
    subst (λ (y : Known). HasRoom y.seen c.args.out.now true) (sym known) (no_memory n held left seat x fits c.post-posted.result c.args.out.now c.post-posted.ensures.full c.post-posted.ensures.err is)
