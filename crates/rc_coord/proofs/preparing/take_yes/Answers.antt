use Rattle.std.proofs.Common.{◌≡◌, true, false, refl, sym, ap, ◌∙◌}
use Rattle.rc_protocol.specs.Coordinator.{CoordDurable, CoordVolatile, with_yes}
use Rattle.rc_node.specs.Acts.{Site}
use Rattle.rc_coord_tables.specs.Gathers.{GatherTable, answered_in}
use Rattle.rc_coord.specs.Sites.{site_of}
use Rattle.rc_coord.proofs.GatherRows.{table-is, fits-yes, commit-is}
use Rattle.rc_coord.proofs.GatherActs.{yes-waits, yes-refused, yes-accepts, yes-fails}
use Rattle.rc_coord.proofs.PreparedFacts.{takes-yes, all-is, low-is, refused-is}
use Rattle.rc_coord.proofs.preparing.take_yes.Goals as goal

pub returns-then-not-is_complete-clause-ok : goal.returns-then-not-is_complete-clause-ok
returns-then-not-is_complete-clause-ok g c =
    let cluster = c.args.home.now.cluster in
    let dc = c.args.home.now.dc in
    let old : Site CoordDurable CoordVolatile = site_of g.J.Journal.state c.args.store.now c.args.out.now in
    let yes = takes-yes cluster dc old.durable old.volatile c.args.tx c.args.shard c.args.gather c.answer-said.new.self c.requires.world c.requires.waits c.answer-said.ensures.gather in
    yes-waits cluster dc old c.args.tx c.args.shard yes.gather yes.waiting c.yes.new.self.table
    (all-is cluster (with_yes yes.gather c.args.shard) c.answer-said.new.self false yes.after (sym c.is_complete.ensures ∙ c.if-not-is_complete.true))
    (c.yes.ensures.table ∙ table-is cluster dc old.durable old.volatile c.args.tx c.args.shard yes.gather c.args.store.now.tables.gathers c.requires.world yes.waiting c.requires.fit.gathers refl)

pub returns-then-not-is_complete-clause-fit : goal.returns-then-not-is_complete-clause-fit
returns-then-not-is_complete-clause-fit g c =
    let cluster = c.args.home.now.cluster in
    let dc = c.args.home.now.dc in
    let old : Site CoordDurable CoordVolatile = site_of g.J.Journal.state c.args.store.now c.args.out.now in
    let yes = takes-yes cluster dc old.durable old.volatile c.args.tx c.args.shard c.args.gather c.answer-said.new.self c.requires.world c.requires.waits c.answer-said.ensures.gather in
    record {
      votes = c.requires.fit.votes;
      dcs = c.requires.fit.dcs;
      weights = c.requires.fit.weights;
      gathers =
          fits-yes cluster dc old.durable old.volatile c.args.tx c.args.shard yes.gather c.args.store.now.tables.gathers c.yes.new.self c.requires.world yes.waiting
          c.requires.fit.gathers refl c.yes.ensures.table c.yes.ensures.asked;
    }

pub returns-then-lt-clause-ok : goal.returns-then-lt-clause-ok
returns-then-lt-clause-ok g c =
    let cluster = c.args.home.now.cluster in
    let dc = c.args.home.now.dc in
    let old : Site CoordDurable CoordVolatile = site_of g.J.Journal.state c.args.store.now c.args.out.now in
    let yes = takes-yes cluster dc old.durable old.volatile c.args.tx c.args.shard c.args.gather c.answer-said.new.self c.requires.world c.requires.waits c.answer-said.ensures.gather in
    let ballot : c.ballot-ballot.result ≡ yes.gather.ballot = c.ballot-ballot.ensures ∙ ap (λ x. x.ballot) yes.after in
    yes-refused cluster dc old c.args.tx c.args.shard yes.gather yes.waiting c.yes-then-lt.new.self.table c.post_refusal.new.out
    (all-is cluster (with_yes yes.gather c.args.shard) c.answer-said.new.self true yes.after (sym c.is_complete.ensures ∙ c.if-not-is_complete.false))
    (low-is c.ballot-ballot.result yes.gather.ballot c.promise_for-promise.result _ true ballot c.promise_for-promise.ensures (sym c.lt.ensures ∙ c.if-lt.true))
    (c.yes-then-lt.ensures.table ∙ table-is cluster dc old.durable old.volatile c.args.tx c.args.shard yes.gather c.args.store.now.tables.gathers c.requires.world yes.waiting c.requires.fit.gathers refl)
    (refused-is cluster dc old.volatile c.args.tx c.ballot-ballot.result yes.gather.ballot c.promise_for-promise.result _ c.proposer-to.result c.args.out.now c.post_refusal.new.out
    ballot c.promise_for-promise.ensures c.proposer-to.ensures c.in_ok-post_refusal.ensures.ok)

pub returns-then-lt-clause-fit : goal.returns-then-lt-clause-fit
returns-then-lt-clause-fit g c =
    let cluster = c.args.home.now.cluster in
    let dc = c.args.home.now.dc in
    let old : Site CoordDurable CoordVolatile = site_of g.J.Journal.state c.args.store.now c.args.out.now in
    let yes = takes-yes cluster dc old.durable old.volatile c.args.tx c.args.shard c.args.gather c.answer-said.new.self c.requires.world c.requires.waits c.answer-said.ensures.gather in
    record {
      votes = c.requires.fit.votes;
      dcs = c.requires.fit.dcs;
      weights = c.requires.fit.weights;
      gathers =
          fits-yes cluster dc old.durable old.volatile c.args.tx c.args.shard yes.gather c.args.store.now.tables.gathers c.yes-then-lt.new.self c.requires.world yes.waiting
          c.requires.fit.gathers refl c.yes-then-lt.ensures.table c.yes-then-lt.ensures.asked;
    }

pub returns-in-Ok-clause-ok : goal.returns-in-Ok-clause-ok
returns-in-Ok-clause-ok g c =
    let cluster = c.args.home.now.cluster in
    let dc = c.args.home.now.dc in
    let old : Site CoordDurable CoordVolatile = site_of g.J.Journal.state c.args.store.now c.args.out.now in
    let mid : Site CoordDurable CoordVolatile = site_of g.J.Journal.state c.accept.new.store c.accept.new.out in
    let yes = takes-yes cluster dc old.durable old.volatile c.args.tx c.args.shard c.args.gather c.answer-said.new.self c.requires.world c.requires.waits c.answer-said.ensures.gather in
    let ballot : c.ballot-ballot.result ≡ yes.gather.ballot = c.ballot-ballot.ensures ∙ ap (λ x. x.ballot) yes.after in
    yes-accepts cluster dc old c.args.tx c.args.shard yes.gather yes.waiting c.ballot-ballot.result c.in_ok-commit.commit c.yes-in-Ok.new.self.table mid
    (all-is cluster (with_yes yes.gather c.args.shard) c.answer-said.new.self true yes.after (sym c.is_complete.ensures ∙ c.if-not-is_complete.false))
    (low-is c.ballot-ballot.result yes.gather.ballot c.promise_for-promise.result _ false ballot c.promise_for-promise.ensures (sym c.lt.ensures ∙ c.if-lt.false))
    ballot
    (c.in_ok-commit.ensures ∙ commit-is cluster dc old.durable old.volatile c.args.tx c.args.shard yes.gather yes.waiting)
    (c.yes-in-Ok.ensures.table ∙ ap (λ (x : GatherTable). answered_in x c.args.tx c.args.shard) c.in-Ok.ensures.gathers
    ∙ table-is cluster dc old.durable old.volatile c.args.tx c.args.shard yes.gather c.args.store.now.tables.gathers c.requires.world yes.waiting c.requires.fit.gathers refl)
    c.in-Ok.ensures.ok

pub returns-in-Ok-clause-fit : goal.returns-in-Ok-clause-fit
returns-in-Ok-clause-fit g c =
    let cluster = c.args.home.now.cluster in
    let dc = c.args.home.now.dc in
    let old : Site CoordDurable CoordVolatile = site_of g.J.Journal.state c.args.store.now c.args.out.now in
    let yes = takes-yes cluster dc old.durable old.volatile c.args.tx c.args.shard c.args.gather c.answer-said.new.self c.requires.world c.requires.waits c.answer-said.ensures.gather in
    record {
      votes = c.in-Ok.ensures.fit.votes;
      dcs = c.in-Ok.ensures.fit.dcs;
      weights = c.in-Ok.ensures.fit.weights;
      gathers =
          fits-yes cluster dc old.durable old.volatile c.args.tx c.args.shard yes.gather c.accept.new.store.tables.gathers c.yes-in-Ok.new.self c.requires.world yes.waiting
          c.in-Ok.ensures.fit.gathers (ap (λ (x : GatherTable). x.table) c.in-Ok.ensures.gathers) c.yes-in-Ok.ensures.table c.yes-in-Ok.ensures.asked;
    }

pub returns-clause-err : goal.returns-clause-err
returns-clause-err g c =
    let cluster = c.args.home.now.cluster in
    let dc = c.args.home.now.dc in
    let old : Site CoordDurable CoordVolatile = site_of g.J.Journal.state c.args.store.now c.args.out.now in
    let new : Site CoordDurable CoordVolatile = site_of g.J.Journal.state c.accept.new.store c.accept.new.out in
    let yes = takes-yes cluster dc old.durable old.volatile c.args.tx c.args.shard c.args.gather c.answer-said.new.self c.requires.world c.requires.waits c.answer-said.ensures.gather in
    let ballot : c.ballot-ballot.result ≡ yes.gather.ballot = c.ballot-ballot.ensures ∙ ap (λ x. x.ballot) yes.after in
    yes-fails cluster dc old c.args.tx c.args.shard yes.gather yes.waiting c.in-Err.fault (g.J.Journal.may_leave c.accept.new.store.journal) c.ballot-ballot.result c.in_ok-commit.commit new
    (all-is cluster (with_yes yes.gather c.args.shard) c.answer-said.new.self true yes.after (sym c.is_complete.ensures ∙ c.if-not-is_complete.false))
    (low-is c.ballot-ballot.result yes.gather.ballot c.promise_for-promise.result _ false ballot c.promise_for-promise.ensures (sym c.lt.ensures ∙ c.if-lt.false))
    ballot
    (c.in_ok-commit.ensures ∙ commit-is cluster dc old.durable old.volatile c.args.tx c.args.shard yes.gather yes.waiting)
    c.in-Err.ensures.err
