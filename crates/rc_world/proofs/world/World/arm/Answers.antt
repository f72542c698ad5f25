use Rattle.rc_report.specs.declared.fault.Wrong.TheVariants.{Down}
use Rattle.rc_runs.specs.declared.event.Event.TheVariants.{CrashAt}
use Rattle.rc_world.specs.Limits.{CauseIs}
use Rattle.rc_world.proofs.Causing.{is_misnamed, given_on}
use Rattle.rc_world.proofs.world.World.arm.Goals as goal

pub returns-in_err-wants_up-clause-err : goal.returns-in_err-wants_up-clause-err
returns-in_err-wants_up-clause-err g c = λ r z is.
    let why = c.in_err-wants_up.ensures.err r z is in
    given_on (CauseIs z (CrashAt c.args.node.now c.args.k c.args.pick)) _ _ c.from_residual.ensures.1 (is_misnamed z (CrashAt c.args.node.now c.args.k c.args.pick) _ (Down c.args.node.now) why.0 why.1)
