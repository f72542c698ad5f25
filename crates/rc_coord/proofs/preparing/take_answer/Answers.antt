use Rattle.std.proofs.Common.{Option, refl, sym, ap, subst, ◌∙◌}
use Rattle.rc_body.specs.declared.reason.Reason.{Reason}
use Rattle.rc_protocol.specs.Coordinator.{CoordDurable, CoordVolatile, CoordAct, on_prepared}
use Rattle.rc_vote.specs.Gathers.{ShardGather}
use Rattle.rc_node.specs.Acts.{Site, Acts, coord_does}
use Rattle.rc_coord.specs.Sites.{site_of}
use Rattle.rc_coord.proofs.GatherRows.{waits-from, row-no}
use Rattle.rc_coord.proofs.preparing.take_answer.Goals as goal

pub returns-in_ok-take_no-in-Some-clause-ok : goal.returns-in_ok-take_no-in-Some-clause-ok
returns-in_ok-take_no-in-Some-clause-ok g c =
    let cluster = c.args.home.now.cluster in
    let dc = c.args.home.now.dc in
    let old : Site CoordDurable CoordVolatile = site_of g.J.Journal.state c.args.store.now c.args.out.now in
    let new : Site CoordDurable CoordVolatile = site_of g.J.Journal.state c.args.store.now c.take_no.new.out in
    let w = waits-from cluster dc old.durable old.volatile c.args.tx c.args.shard c.args.gather c.requires.waits in
    subst (λ (act : CoordAct). Acts old new (coord_does old.durable act))
    (row-no cluster dc old.durable old.volatile c.args.tx c.args.shard w.gather c.args.gather.ballot c.in-Some.reason w.waiting (sym (ap (λ (x : ShardGather). x.ballot) w.same))
    ∙ ap (λ (r : Option Reason). on_prepared cluster dc old.durable old.volatile c.args.tx c.args.shard r) (sym c.in-Some.is))
    (record { durable = refl; volatile = refl; logs = refl; sends = c.in_ok-take_no-in-Some.ensures.ok; left = refl })
