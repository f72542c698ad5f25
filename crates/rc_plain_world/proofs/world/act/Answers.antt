use Rattle.std.proofs.Common.{◌≡◌, [], List, true, sym, subst}
use Rattle.rc_report.specs.declared.line.Line.{Line}
use Rattle.rc_msg.specs.declared.msg.Envelope.{Envelope}
use Rattle.rc_plain_world.specs.Acted.{Acted, MayAct, deed_work, does_by}
use Rattle.std.proofs.lemmas.Result.{IfOk-weaker}
use Rattle.rc_plain_world.specs.Sessions.{acts}
use Rattle.rc_plain_world.proofs.Events.{acting_acted}
use Rattle.rc_plain_world.proofs.Taken.{may_act}
use Rattle.rc_plain_world.proofs.world.act.Goals as goal

pub act-requires : goal.act-requires
act-requires c =
    subst (λ (s : List Envelope). MayAct c.args.parties.now.parties s c.args.from.now c.args.event.now) (sym c.sent.ensures)
    (may_act c.args.parties.now c.args.network.now c.args.event.now c.args.from.now c.requires.named c.requires.from)

pub returns-then-acts-clause-done : goal.returns-then-acts-clause-done
returns-then-acts-clause-done c =
    let is : acts c.args.event.now ≡ true = (cc) in
    IfOk-weaker c.act.result _ _
    (λ out acted. acting_acted c.args.parties.now c.act.new.self c.args.network.now c.args.event.now c.args.from.now out c.act.new.lines is c.requires.from
    (subst (λ (s : List Envelope). Acted (does_by c.args.parties.now.parties s c.args.event.now c.args.from.now) (deed_work c.args.parties.now (does_by c.args.parties.now.parties s c.args.event.now c.args.from.now)) c.args.parties.now c.act.new.self out [] c.act.new.lines) c.sent.ensures
    (subst (λ (ls : List Line). Acted (does_by c.args.parties.now.parties c.sent.result.now c.args.event.now c.args.from.now) (deed_work c.args.parties.now (does_by c.args.parties.now.parties c.sent.result.now c.args.event.now c.args.from.now)) c.args.parties.now c.act.new.self out ls c.act.new.lines) c.requires.own acted)))
    c.act.ensures.done
