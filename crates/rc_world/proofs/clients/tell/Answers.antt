-- A client's commands.
use Rattle.std.proofs.Common.{◌≡◌, Some, refl, ap}
use Rattle.std.specs.Prelude.{Result, Ok}
use Rattle.rc_protocol.specs.Acts.{Writes, Vanishes}
use Rattle.rc_client.specs.declared.fault.ClientFault.{ClientFault}
use Rattle.rc_world.specs.OneClient.{cause_of}
use Rattle.rc_world.proofs.Answering.{by_silent_call}
use Rattle.rc_world.proofs.clients.tell.Goals as goal

pub returns-in_ok-copy-in-Write : goal.returns-in_ok-copy-in-Write
returns-in_ok-copy-in-Write c =
    let told : cause_of c.args.event.now ≡ Some (Writes c.in-Write.key c.in-Write.val) = ap cause_of c.in-Write.is in
    let copied : cause_of c.args.event.now ≡ Some (Writes c.copy-in-Write.result c.in_ok-copy-in-Write.field-0) = cc (c.copy-in-Write.ensures, c.in_ok-copy-in-Write.ensures) in
    by_silent_call c.args.cluster.now c.args.tx c.args.event.now (Writes c.copy-in-Write.result c.in_ok-copy-in-Write.field-0) c.args.client.now c.write.new.self
    c.args.out.now c.args.out.now c.args.lines.now c.write.result c.answer-in-Write.result copied c.requires.tx c.requires.there c.requires.takes c.write.ensures.weights
    (c.write.ensures.ok c.args.cluster.now c.args.out.now) (c.write.ensures.err c.args.cluster.now c.args.out.now) c.answer-in-Write.ensures

pub returns-in-Vanish : goal.returns-in-Vanish
returns-in-Vanish c =
    let done : Result (Unit {0}) ClientFault = Ok tt in
    by_silent_call c.args.cluster.now c.args.tx c.args.event.now Vanishes c.args.client.now c.vanish.new.self c.args.out.now c.args.out.now c.args.lines.now
    done (Ok tt) (ap cause_of c.in-Vanish.is) c.requires.tx c.requires.there c.requires.takes c.vanish.ensures.weights
    (c.vanish.ensures.acts c.args.cluster.now c.args.out.now) tt refl
