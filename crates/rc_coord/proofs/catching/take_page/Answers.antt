use Rattle.std.proofs.Common.{sym, ap, subst, ◌∙◌}
use Rattle.std.proofs.lemmas.Result.{on_ok_weaker, IfErr-weaker}
use Rattle.rc_protocol.specs.Coordinator.{CoordDurable, CoordVolatile, CoordAct, with_coord_cursor}
use Rattle.rc_node.specs.Acts.{Site, View, Acts, Refuses, coord_does}
use Rattle.rc_node.specs.declared.fault.NodeFault.{NodeFault}
use Rattle.rc_coord.specs.Rows.{asks_at}
use Rattle.rc_coord.specs.Sites.{site_of, durable_of, volatile_of}
use Rattle.rc_coord.proofs.PageRows.{new-is, pass-acts}
use Rattle.rc_coord.proofs.catching.take_page.Goals as goal

pub returns-then-is_empty-clause-ok : goal.returns-then-is_empty-clause-ok
returns-then-is_empty-clause-ok g c =
    let old : Site CoordDurable CoordVolatile = site_of g.J.Journal.state c.args.store.now c.args.out.now in
    let new : Site CoordDurable CoordVolatile = record { durable = durable_of c.pass.new.tables; volatile = volatile_of c.pass.new.tables; journal = old.journal; out = c.pass.new.out } in
    pass-acts c.args.home.now.cluster c.args.home.now.dc old new c.args.from c.args.next c.args.fresh (asks_at c.args.from c.args.ask) (sym c.is_empty.ensures ∙ c.if-is_empty.true)
    (ap (λ (x : View CoordDurable CoordVolatile). let z : Site CoordDurable CoordVolatile = record { durable = x.durable; volatile = x.volatile; journal = old.journal; out = x.out } in z) c.in_ok-pass.ensures.ok)

pub returns-clause-ok : goal.returns-clause-ok
returns-clause-ok g c =
    let old : Site CoordDurable CoordVolatile = site_of g.J.Journal.state c.args.store.now c.args.out.now in
    let new : Site CoordDurable CoordVolatile = site_of g.J.Journal.state c.take_new.new.store c.take_new.new.out in
    on_ok_weaker c.take_new.result
    (subst (λ (act : CoordAct). Acts old new (coord_does old.durable act))
    (new-is c.args.home.now.cluster c.args.home.now.dc (with_coord_cursor old.volatile c.args.from c.args.next) c.args.fresh (asks_at c.args.from c.args.ask) (sym c.is_empty.ensures ∙ c.if-is_empty.false)))
    c.take_new.ensures.ok

pub returns-clause-err : goal.returns-clause-err
returns-clause-err g c =
    let old : Site CoordDurable CoordVolatile = site_of g.J.Journal.state c.args.store.now c.args.out.now in
    let new : Site CoordDurable CoordVolatile = site_of g.J.Journal.state c.take_new.new.store c.take_new.new.out in
    IfErr-weaker c.take_new.result _ _
    (λ (fault : NodeFault). subst (λ (act : CoordAct). Refuses fault (g.J.Journal.may_leave c.take_new.new.store.journal) old new (coord_does old.durable act))
    (new-is c.args.home.now.cluster c.args.home.now.dc (with_coord_cursor old.volatile c.args.from c.args.next) c.args.fresh (asks_at c.args.from c.args.ask) (sym c.is_empty.ensures ∙ c.if-is_empty.false)))
    c.take_new.ensures.err
