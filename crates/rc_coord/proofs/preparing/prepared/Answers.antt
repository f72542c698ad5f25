use Rattle.std.proofs.Common.{refl, sym, subst}
use Rattle.rc_protocol.specs.Coordinator.{CoordDurable, CoordVolatile, CoordAct}
use Rattle.rc_node.specs.Acts.{Site, Acts, coord_does}
use Rattle.rc_coord.specs.Sites.{site_of}
use Rattle.rc_coord.proofs.GatherRows.{row-ignored}
use Rattle.rc_coord.proofs.PreparedFacts.{waits-clash}
use Rattle.rc_coord.proofs.preparing.prepared.Goals as goal

pub returns-in-None-clause-ok : goal.returns-in-None-clause-ok
returns-in-None-clause-ok g c =
    let cluster = c.args.home.now.cluster in
    let dc = c.args.home.now.dc in
    let old : Site CoordDurable CoordVolatile = site_of g.J.Journal.state c.args.store.now c.args.out.now in
    subst (λ (act : CoordAct). Acts old old (coord_does old.durable act))
    (row-ignored cluster dc old.durable old.volatile c.args.tx c.args.shard c.args.reason c.in-None.ensures.gather)
    (record { durable = refl; volatile = refl; logs = refl; sends = refl; left = refl })

pub take_answer-requires-clause-waits : goal.take_answer-requires-clause-waits
take_answer-requires-clause-waits g c = sym c.in-Some.ensures.gather

pub returns-in-Some-clause-ignored : goal.returns-in-Some-clause-ignored
returns-in-Some-clause-ignored g c =
    let cluster = c.args.home.now.cluster in
    let dc = c.args.home.now.dc in
    let old : Site CoordDurable CoordVolatile = site_of g.J.Journal.state c.args.store.now c.args.out.now in
    λ none. absurd (waits-clash cluster dc old.durable old.volatile c.args.tx c.args.shard c.in-Some.gather c.in-Some.ensures.gather none)
