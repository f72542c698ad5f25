use Rattle.std.proofs.Common.{refl}
use Rattle.rc_world.proofs.Received.{node_catches, catch_is_done}
use Rattle.rc_report.specs.declared.fault.Wrong.TheVariants.{Down}
use Rattle.rc_runs.specs.declared.event.Event.TheVariants.{Catch}
use Rattle.rc_world.specs.Limits.{CauseIs}
use Rattle.rc_world.proofs.Causing.{is_misnamed, given_on}
use Rattle.rc_world.proofs.world.World.catch.Goals as goal

pub returns-clause-ok : goal.returns-clause-ok
returns-clause-ok g c = λ r z is coords_told shards_told.
    c.node_does.ensures.ok r z _ is tt (catch_is_done z c.args.node.now) (node_catches z.world.parties c.args.node.now) refl (c.in_ok-wants_up.ensures.ok r z is) refl coords_told shards_told

pub returns-clause-err : goal.returns-clause-err
returns-clause-err g c = λ r z is coords_told shards_told.
    c.node_does.ensures.err r z _ is tt (catch_is_done z c.args.node.now) (node_catches z.world.parties c.args.node.now) refl (c.in_ok-wants_up.ensures.ok r z is) refl coords_told shards_told

pub returns-in_err-wants_up-clause-err : goal.returns-in_err-wants_up-clause-err
returns-in_err-wants_up-clause-err g c = λ r z is coords_told shards_told.
    let why = c.in_err-wants_up.ensures.err r z is in
    given_on (CauseIs z (Catch c.args.node.now)) _ _ c.from_residual.ensures.1 (is_misnamed z (Catch c.args.node.now) _ (Down c.args.node.now) why.0 why.1)
