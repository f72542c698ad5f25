use Rattle.std.proofs.Common.{◌≡◌, None, Some}
use Rattle.std.proofs.lemmas.Result.{on_ok_weaker}
use Rattle.rc_plain_world.specs.Sessions.{actor_if_any}
use Rattle.rc_plain_world.proofs.Happenings.{stepped_by_act, stepped_by_loss}
use Rattle.rc_plain_world.proofs.world.step.Goals as goal

pub returns-in_default-clause-done : goal.returns-in_default-clause-done
returns-in_default-clause-done c =
    let who : actor_if_any c.args.network.now.sent c.args.event.now ≡ None = (cc) in
    on_ok_weaker c.send_nothing.result
    (λ did. stepped_by_loss c.args.parties.now c.args.network.now c.send_nothing.new.network c.args.event.now c.args.own.now who c.requires.named did.0 did.1 c.requires.own)
    c.send_nothing.ensures.passed

pub returns-clause-done : goal.returns-clause-done
returns-clause-done c =
    let who : actor_if_any c.args.network.now.sent c.args.event.now ≡ Some c.in-Some.from = (cc) in
    on_ok_weaker c.send.result
    (λ did. stepped_by_act c.args.parties.now c.act.new.parties c.args.network.now c.send.new.network c.args.event.now c.in-Some.from c.in_ok-out.out c.act.new.own c.in_ok-out.ensures.done who did.0 did.1)
    c.send.ensures.sent
