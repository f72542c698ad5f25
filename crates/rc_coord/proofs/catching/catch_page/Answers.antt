use Rattle.std.proofs.Common.{subst, refl}
use Rattle.rc_protocol.specs.Coordinator.{CoordDurable, CoordVolatile, CoordAct}
use Rattle.rc_node.specs.Acts.{Site, Acts, coord_does}
use Rattle.rc_coord.specs.Sites.{site_of}
use Rattle.rc_coord.proofs.PageRows.{undecided-new, ignored-is}
use Rattle.rc_coord.proofs.catching.catch_page.Goals as goal

pub returns-in-None-clause-ok : goal.returns-in-None-clause-ok
returns-in-None-clause-ok g c =
    let old : Site CoordDurable CoordVolatile = site_of g.J.Journal.state c.args.store.now c.args.out.now in
    subst (λ (act : CoordAct). Acts old old (coord_does old.durable act))
    (ignored-is c.args.home.now.cluster c.args.home.now.dc old.durable old.volatile c.args.from c.args.place c.args.page.now c.in-None.ensures)
    (record { durable = refl; volatile = refl; logs = refl; sends = refl; left = refl })

pub take_page-requires-clause-new : goal.take_page-requires-clause-new
take_page-requires-clause-new g c =
    undecided-new c.args.store.now.tables.outcomes.entries c.args.page.now c.in_ok-fresh-in-Some.fresh c.in_ok-fresh-in-Some.ensures.fresh c.in_ok-fresh-in-Some.ensures.page.apart
