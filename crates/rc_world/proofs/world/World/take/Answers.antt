use Rattle.std.proofs.Common.{refl, sym, Option, None, Some, ap}
use Rattle.rc_world.proofs.Received.{take_is_done, take_is_named}
use Rattle.rc_report.specs.declared.fault.Wrong.{Wrong}
use Rattle.rc_report.specs.declared.fault.Wrong.TheVariants.{Down, NotBegun}
use Rattle.rc_ids.specs.declared.names.NodeId.TheVariants.{Coord}
use Rattle.rc_protocol.specs.Messages.{or_else}
use Rattle.rc_runs.specs.Refusals.{is_begun}
use Rattle.rc_runs.specs.declared.event.Event.TheVariants.{Take}
use Rattle.rc_world.specs.Limits.{CauseIs}
use Rattle.rc_world.proofs.Causing.{is_misnamed, given_on}
use Rattle.std.specs.Prelude.{if◌then◌else◌}
use Rattle.rc_world.proofs.world.World.take.Goals as goal

pub returns-clause-ok : goal.returns-clause-ok
returns-clause-ok g c = λ r z is spelled coords_told.
    c.coord_does.ensures.ok r z _ is spelled.1 (take_is_done z c.args.dc c.args.tx) refl refl
    (take_is_named z.world c.args.dc c.args.tx (c.in_ok-wants_up.ensures.ok r z is) (sym (c.if-not-is_begun.ensures z.world.parties is.parties.roster))) refl coords_told

pub returns-clause-err : goal.returns-clause-err
returns-clause-err g c = λ r z is spelled coords_told.
    c.coord_does.ensures.err r z _ is spelled.1 (take_is_done z c.args.dc c.args.tx) refl refl
    (take_is_named z.world c.args.dc c.args.tx (c.in_ok-wants_up.ensures.ok r z is) (sym (c.if-not-is_begun.ensures z.world.parties is.parties.roster))) refl coords_told

pub returns-in_err-wants_up-clause-err : goal.returns-in_err-wants_up-clause-err
returns-in_err-wants_up-clause-err g c = λ r z is spelled coords_told.
    let why = c.in_err-wants_up.ensures.err r z is in
    let there : Option Wrong = if is_begun z.world.parties c.args.tx then None else Some (NotBegun c.args.tx) in
    given_on (CauseIs z (Take c.args.dc c.args.tx)) _ _ c.from_residual.ensures.1 (is_misnamed z (Take c.args.dc c.args.tx) _ (Down (Coord c.args.dc)) why.0 (ap (λ (o : Option Wrong). or_else o there) why.1))
