use Rattle.std.proofs.Common.{ℕ, List, sym, ap, subst, ◌∙◌}
use Rattle.std.proofs.lemmas.Result.{on_ok_weaker}
use Rattle.rc_ids.specs.Cluster.{holds}
use Rattle.rc_protocol.specs.Coordinator.{standing_for, stands_for, standing_at, tally_of}
use Rattle.rc_protocol.specs.Coordinator.{CoordDurable, CoordVolatile, CoordAct}
use Rattle.rc_node.specs.Acts.{Site, Acts, coord_does}
use Rattle.rc_coord.specs.Sites.{site_of}
use Rattle.rc_coord.proofs.RowFacts.{none_copied, voted-learns}
use Rattle.rc_coord.proofs.voting.voted.Goals as goal

pub returns-then-would_decide-clause-ok : goal.returns-then-would_decide-clause-ok
returns-then-would_decide-clause-ok g c =
    let old : Site CoordDurable CoordVolatile = site_of g.J.Journal.state c.args.store.now c.args.out.now in
    let new : Site CoordDurable CoordVolatile = site_of g.J.Journal.state c.learn.new.store c.learn.new.out in
    on_ok_weaker c.learn.result
    (subst (λ (act : CoordAct). Acts old new (coord_does old.durable act))
    (voted-learns c.args.home.now.cluster c.args.home.now.dc old.durable old.volatile c.args.tx c.args.ballot c.args.from c.args.decision.now
    (none_copied c.get.result c.get.ensures (sym c.is_some.ensures ∙ c.if-is_some.false))
    (ap (λ (w : List ℕ). holds w (standing_for (stands_for (standing_at (tally_of old.volatile c.args.tx) c.args.ballot) c.args.decision.now c.args.from) c.args.decision.now)) (sym c.requires.fit.votes)
    ∙ sym c.would_decide.ensures ∙ c.if-would_decide.true)))
    c.learn.ensures.ok
