use Rattle.std.proofs.Common.{◌≡◌, None}
use Rattle.std.proofs.lemmas.Result.{IfOk-weaker}
use Rattle.std.specs.Prelude.{length}
use Rattle.rc_plain_world.specs.Sessions.{early_limit}
use Rattle.rc_plain_world.proofs.Happenings.{happened}
use Rattle.rc_plain_world.proofs.world.happen.Goals as goal

pub returns-clause-went : goal.returns-clause-went
returns-clause-went c =
    let early : early_limit c.args.event.now (length c.args.parties.now.parties.clients) c.args.events ≡ None = (cc) in
    IfOk-weaker c.print.result _ _
    (λ sum did. happened c.args.parties.now c.step.new.parties c.args.network.now c.step.new.network c.args.events c.args.text sum c.args.event.now c.step.new.own c.requires.named early c.in_ok-step.ensures.done did.0 did.1)
    c.print.ensures.fits
