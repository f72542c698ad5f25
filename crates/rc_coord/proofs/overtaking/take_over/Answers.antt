use Rattle.std.proofs.Common.{ℕ, ◌≤◌, Option, Some, sym, ap, subst, ◌∙◌, arith}
use Rattle.std.proofs.lemmas.Result.{on_ok_weaker, IfErr-weaker}
use Rattle.rc_protocol.specs.Coordinator.{CoordDurable, CoordVolatile, CoordAct, promise_of, opening}
use Rattle.rc_takeover.specs.TakeOvers.{kept}
use Rattle.rc_node.specs.Acts.{Site, Acts, Refuses, coord_does}
use Rattle.rc_node.specs.declared.fault.NodeFault.{NodeFault}
use Rattle.rc_coord.specs.Sites.{site_of}
use Rattle.rc_coord.proofs.OpenFacts.{next-above, opened-from, spent-from, takes-next, takes-refuses}
use Rattle.rc_coord.proofs.overtaking.take_over.Goals as goal

pub open_at-requires-clause-may : goal.open_at-requires-clause-may
open_at-requires-clause-may g c =
    let cluster = c.args.home.now.cluster in
    let dc = c.args.home.now.dc in
    let old : Site CoordDurable CoordVolatile = site_of g.J.Journal.state c.args.store.now c.args.out.now in
    let opened = opened-from cluster dc (promise_of old.durable.promises c.args.tx) c.promise_for-promise.result c.args.is_eager c.in-Ok.takeover c.promise_for-promise.ensures c.in-Ok.ensures in
    let above : promise_of old.durable.promises c.args.tx ≤ c.in-Ok.takeover.state.ballot = next-above cluster dc (promise_of old.durable.promises c.args.tx) c.in-Ok.takeover.state.ballot opened.next in
    omega (arith, above, c.ballot-ballot.ensures)

pub open_at-requires-clause-new : goal.open_at-requires-clause-new
open_at-requires-clause-new g c =
    let cluster = c.args.home.now.cluster in
    let dc = c.args.home.now.dc in
    let old : Site CoordDurable CoordVolatile = site_of g.J.Journal.state c.args.store.now c.args.out.now in
    let opened = opened-from cluster dc (promise_of old.durable.promises c.args.tx) c.promise_for-promise.result c.args.is_eager c.in-Ok.takeover c.promise_for-promise.ensures c.in-Ok.ensures in
    opened.same ∙ ap (λ (n : ℕ). kept cluster (opening n c.args.is_eager)) (sym c.ballot-ballot.ensures)

pub returns-in-Ok-clause-ok : goal.returns-in-Ok-clause-ok
returns-in-Ok-clause-ok g c =
    let cluster = c.args.home.now.cluster in
    let dc = c.args.home.now.dc in
    let old : Site CoordDurable CoordVolatile = site_of g.J.Journal.state c.args.store.now c.args.out.now in
    let opened = opened-from cluster dc (promise_of old.durable.promises c.args.tx) c.promise_for-promise.result c.args.is_eager c.in-Ok.takeover c.promise_for-promise.ensures c.in-Ok.ensures in
    let new : Site CoordDurable CoordVolatile = site_of g.J.Journal.state c.open_at.new.store c.open_at.new.out in
    on_ok_weaker c.open_at.result
    (subst (λ (act : CoordAct). Acts old new (coord_does old.durable act))
    (takes-next cluster dc old.durable old.volatile c.args.tx c.ballot-ballot.result c.args.is_eager (opened.next ∙ ap (λ (n : ℕ). let o : Option ℕ = Some n in o) (sym c.ballot-ballot.ensures))))
    c.open_at.ensures.ok

pub returns-in-Ok-clause-err : goal.returns-in-Ok-clause-err
returns-in-Ok-clause-err g c =
    let cluster = c.args.home.now.cluster in
    let dc = c.args.home.now.dc in
    let old : Site CoordDurable CoordVolatile = site_of g.J.Journal.state c.args.store.now c.args.out.now in
    let opened = opened-from cluster dc (promise_of old.durable.promises c.args.tx) c.promise_for-promise.result c.args.is_eager c.in-Ok.takeover c.promise_for-promise.ensures c.in-Ok.ensures in
    let new : Site CoordDurable CoordVolatile = site_of g.J.Journal.state c.open_at.new.store c.open_at.new.out in
    IfErr-weaker c.open_at.result _ _
    (λ (fault : NodeFault). subst (λ (act : CoordAct). Refuses fault (g.J.Journal.may_leave c.open_at.new.store.journal) old new (coord_does old.durable act))
    (takes-next cluster dc old.durable old.volatile c.args.tx c.ballot-ballot.result c.args.is_eager (opened.next ∙ ap (λ (n : ℕ). let o : Option ℕ = Some n in o) (sym c.ballot-ballot.ensures))))
    c.open_at.ensures.err

pub returns-in-Err-clause-err : goal.returns-in-Err-clause-err
returns-in-Err-clause-err g c =
    let cluster = c.args.home.now.cluster in
    let dc = c.args.home.now.dc in
    let old : Site CoordDurable CoordVolatile = site_of g.J.Journal.state c.args.store.now c.args.out.now in
    takes-refuses cluster dc old c.args.tx c.args.is_eager (g.J.Journal.may_leave c.args.store.now.journal)
    (spent-from cluster dc (promise_of old.durable.promises c.args.tx) c.promise_for-promise.result c.args.is_eager c.promise_for-promise.ensures c.in-Err.ensures)
