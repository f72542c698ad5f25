use Rattle.std.proofs.Common.{◌≡◌, true, subst}
use Rattle.std.proofs.lemmas.Result.{on_ok_weaker, IfErr-weaker}
use Rattle.rc_ids.specs.Cluster.{is_dc}
use Rattle.rc_protocol.specs.Coordinator.{CoordDurable, CoordVolatile, CoordAct, on_voted, coord_row}
use Rattle.rc_node.specs.Acts.{Site, Acts, Refuses, coord_does}
use Rattle.rc_coord.specs.Sites.{site_of}
use Rattle.rc_coord.proofs.HandlingFacts.{voted-row}
use Rattle.rc_coord.proofs.handling.act.Goals as goal

pub returns-else-not-is_dc-2-clause-ok : goal.returns-else-not-is_dc-2-clause-ok
returns-else-not-is_dc-2-clause-ok g c =
    let home = c.args.home.now in
    let old : Site CoordDurable CoordVolatile = site_of g.J.Journal.state c.args.store.now c.args.out.now in
    let new : Site CoordDurable CoordVolatile = site_of g.J.Journal.state c.voted.new.store c.voted.new.out in
    let within : is_dc home.cluster c.in-Voted.dc ≡ true = cc in
    on_ok_weaker c.voted.result
    (subst (λ (act : CoordAct). Acts old new (coord_does old.durable act))
    (voted-row home.cluster home.dc old.durable old.volatile c.args.from c.args.msg.now c.in-Voted.tx c.in-Voted.ballot c.in-Voted.dc c.in-Voted.decision c.in-Voted.is within))
    c.voted.ensures.ok

pub returns-else-not-is_dc-2-clause-err : goal.returns-else-not-is_dc-2-clause-err
returns-else-not-is_dc-2-clause-err g c =
    let home = c.args.home.now in
    let old : Site CoordDurable CoordVolatile = site_of g.J.Journal.state c.args.store.now c.args.out.now in
    let new : Site CoordDurable CoordVolatile = site_of g.J.Journal.state c.voted.new.store c.voted.new.out in
    let within : is_dc home.cluster c.in-Voted.dc ≡ true = cc in
    let row = voted-row home.cluster home.dc old.durable old.volatile c.args.from c.args.msg.now c.in-Voted.tx c.in-Voted.ballot c.in-Voted.dc c.in-Voted.decision c.in-Voted.is within in
    IfErr-weaker c.voted.result (λ fault. Refuses fault (g.J.Journal.may_leave c.voted.new.store.journal) old new (coord_does old.durable (on_voted home.cluster home.dc old.durable old.volatile c.in-Voted.tx c.in-Voted.ballot c.in-Voted.dc c.in-Voted.decision)))
    (λ fault. Refuses fault (g.J.Journal.may_leave c.voted.new.store.journal) old new (coord_does old.durable (coord_row home.cluster home.dc old.durable old.volatile c.args.from c.args.msg.now)))
    (λ fault. subst (λ (act : CoordAct). Refuses fault (g.J.Journal.may_leave c.voted.new.store.journal) old new (coord_does old.durable act)) row)
    c.voted.ensures.err
