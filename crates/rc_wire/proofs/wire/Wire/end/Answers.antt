use Rattle.std.proofs.Common.{◌+◌, refl, sym, ◌∙◌}
use Rattle.rc_ticket.specs.Cards.{card}
use Rattle.rc_wire.proofs.Dealing.{seat_left, seat_knows}
use Rattle.rc_wire.proofs.Knowing.{own_fits, other_fits}
use Rattle.rc_wire.proofs.Turning.{own_passes}
use Rattle.rc_wire.proofs.wire.Wire.end.Goals as goal

pub leave-requires-clause-lock : goal.leave-requires-clause-lock
leave-requires-clause-lock g c = c.requires.lock ∙ sym c.args.self.now.named.0

pub leave-requires-clause-served : goal.leave-requires-clause-served
leave-requires-clause-served g c =
    let s = c.requires.served in
    let n = c.args.ticket in
    let seat = c.args.at.now.seat in
    (card seat s.x, s.held, s.me, own_fits n s.held c.args.hub seat s.x s.follows, λ other y ne f. other_fits n s.held c.args.hub seat other s.x y s.follows s.fits ne f)

pub returns-clause-seat : goal.returns-clause-seat
returns-clause-seat g c =
    let s = c.requires.served in
    let n = c.args.ticket in
    let seat = c.args.at.now.seat in
    seat_left _ _ seat _ _ (c.leave.ensures.lock ∙ c.requires.lock) refl (c.leave.ensures.idle (card seat s.x) s.held s.me) (own_passes _ n (n + 1) s.held c.args.hub seat s.x s.knows s.fits s.follows)

pub returns-clause-known : goal.returns-clause-known
returns-clause-known g c x held me = seat_knows g.W.WireName.names (record { place = c.leave.new.place; seat = c.args.at.now.seat }) c.args.at.now.seat _ (c.leave.ensures.idle (card c.args.at.now.seat x) held me)
