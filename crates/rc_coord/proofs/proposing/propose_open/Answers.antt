use Rattle.std.proofs.Common.{refl, sym, subst, ◌∙◌}
use Rattle.rc_protocol.specs.Coordinator.{CoordDurable, CoordVolatile, CoordAct}
use Rattle.rc_node.specs.Acts.{Site, Acts, coord_does}
use Rattle.rc_coord.specs.Sites.{site_of}
use Rattle.rc_coord.proofs.RowFacts.{propose-low}
use Rattle.rc_coord.proofs.proposing.propose_open.Goals as goal

pub returns-then-lt-clause-ok : goal.returns-then-lt-clause-ok
returns-then-lt-clause-ok g c =
    let old : Site CoordDurable CoordVolatile = site_of g.J.Journal.state c.args.store.now c.args.out.now in
    let new : Site CoordDurable CoordVolatile = site_of g.J.Journal.state c.args.store.now c.post_refusal.new.out in
    subst (λ (act : CoordAct). Acts old new (coord_does old.durable act))
    (propose-low c.args.home.now.cluster c.args.home.now.dc old.durable old.volatile c.args.tx c.args.ballot c.promise_for-promise.result c.args.decision.now c.proposer-to.result c.requires.open
    c.proposer-to.ensures c.promise_for-promise.ensures (sym c.lt.ensures ∙ c.if-lt.true))
    (record { durable = refl; volatile = refl; logs = refl; sends = c.in_ok-post_refusal.ensures.ok; left = refl })
