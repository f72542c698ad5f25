use Rattle.rc_world.proofs.Powered.{carried_along, told_back}
use Rattle.rc_world.specs.Limits.{CauseIs}
use Rattle.rc_world.proofs.Causing.{not_sent, given_on}
use Rattle.rc_world.proofs.world.World.step.Goals as goal

pub returns-clause-ok : goal.returns-clause-ok
returns-clause-ok g c = λ r z is has told.
    let begun = c.in_ok-room.ensures.is r z is in
    let sent = told_back _ _ _ c.in_ok-send.ensures.kept r told in
    let acted = c.in_ok-sending.ensures.ok r z begun has sent in
    c.in_ok-send.ensures.ok r z c.act.new.lines (carried_along _ _ z c.in_ok-sending.ensures.carried begun.carried) has acted

pub returns-clause-grew : goal.returns-clause-grew
returns-clause-grew g c = λ r told.
    told_back _ _ _ c.in_ok-room.ensures.parties r (c.in_ok-sending.ensures.grew r (told_back _ _ _ c.in_ok-send.ensures.kept r told))

pub returns-in_err-sending-clause-grew : goal.returns-in_err-sending-clause-grew
returns-in_err-sending-clause-grew g c = λ r told. told_back _ _ _ c.in_ok-room.ensures.parties r (c.in_err-sending.ensures.grew r told)

pub returns-in_err-send-clause-grew : goal.returns-in_err-send-clause-grew
returns-in_err-send-clause-grew g c = λ r told.
    told_back _ _ _ c.in_ok-room.ensures.parties r (c.in_ok-sending.ensures.grew r (told_back _ _ _ c.in_err-send.ensures.kept r told))

pub returns-in_err-send-clause-err : goal.returns-in_err-send-clause-err
returns-in_err-send-clause-err g c = λ r z is has told.
    let begun = c.in_ok-room.ensures.is r z is in
    let sent = told_back _ _ _ c.in_err-send.ensures.kept r told in
    let acted = c.in_ok-sending.ensures.ok r z begun has sent in
    given_on (CauseIs z c.args.event.now) _ _ c.from_residual-in_err-send.ensures.1 (not_sent z c.args.event.now _ (c.in_err-send.ensures.err r z c.act.new.lines (carried_along _ _ z c.in_ok-sending.ensures.carried begun.carried) has acted))

pub returns-in_err-sending-clause-err : goal.returns-in_err-sending-clause-err
returns-in_err-sending-clause-err g c = λ r z is has told.
    let begun = c.in_ok-room.ensures.is r z is in
    given_on (CauseIs z c.args.event.now) _ _ c.from_residual-in_err-sending.ensures.1 (c.in_err-sending.ensures.err r z begun has told)
