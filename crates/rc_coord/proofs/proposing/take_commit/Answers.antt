use Rattle.std.proofs.Common.{◌≡◌, ◌≤◌, ap, subst, arith}
use Rattle.std.proofs.lemmas.Result.{on_ok_weaker, IfErr-weaker}
use Rattle.rc_protocol.specs.Coordinator.{GatherState, CoordDurable, CoordVolatile, gathers_on}
use Rattle.rc_node.specs.Acts.{Site, Acts, Refuses, coord_does}
use Rattle.rc_node.specs.declared.fault.NodeFault.{NodeFault}
use Rattle.rc_coord_tables.specs.Gathers.{gather_of}
use Rattle.rc_coord.specs.Rows.{gathered_at}
use Rattle.rc_coord.specs.Sites.{site_of}
use Rattle.rc_coord.proofs.GatherRows.{ballot-above}
use Rattle.rc_coord.proofs.proposing.take_commit.Goals as goal

pub gather-requires-clause-may : goal.gather-requires-clause-may
gather-requires-clause-may g c =
    let same : (gather_of c.in_ok-asked.asked).ballot ≡ (gathered_at c.args.store.now.tables.gathers.table c.args.tx c.args.ballot c.args.body.now).ballot = ap (λ (x : GatherState). x.ballot) c.in_ok-asked.ensures.gather in
    let above : c.args.ballot ≤ (gathered_at c.args.store.now.tables.gathers.table c.args.tx c.args.ballot c.args.body.now).ballot = ballot-above c.args.store.now.tables.gathers.table c.args.tx c.args.ballot c.args.body.now in
    omega (arith, c.requires.may, same, above)

pub returns-clause-ok : goal.returns-clause-ok
returns-clause-ok g c =
    let old : Site CoordDurable CoordVolatile = site_of g.J.Journal.state c.args.store.now c.args.out.now in
    let new : Site CoordDurable CoordVolatile = site_of g.J.Journal.state c.gather.new.store c.gather.new.out in
    on_ok_weaker c.gather.result
    (subst (λ (x : GatherState). Acts old new (coord_does old.durable (gathers_on c.args.home.now.cluster c.args.home.now.dc old.volatile c.args.tx x))) c.in_ok-asked.ensures.gather)
    c.gather.ensures.ok

pub returns-clause-err : goal.returns-clause-err
returns-clause-err g c =
    let old : Site CoordDurable CoordVolatile = site_of g.J.Journal.state c.args.store.now c.args.out.now in
    let new : Site CoordDurable CoordVolatile = site_of g.J.Journal.state c.gather.new.store c.gather.new.out in
    IfErr-weaker c.gather.result _ _
    (λ (fault : NodeFault). subst (λ (x : GatherState). Refuses fault (g.J.Journal.may_leave c.gather.new.store.journal) old new (coord_does old.durable (gathers_on c.args.home.now.cluster c.args.home.now.dc old.volatile c.args.tx x))) c.in_ok-asked.ensures.gather)
    c.gather.ensures.err
