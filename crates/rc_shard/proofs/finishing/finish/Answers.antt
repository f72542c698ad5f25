use Rattle.std.proofs.Common.{[], ◌∷◌, None, sym, ap, subst, ◌∙◌}
use Rattle.std.proofs.lemmas.Result.{on_ok_weaker, IfErr-weaker}
use Rattle.rc_body.specs.declared.decision.Decision.{Decision}
use Rattle.rc_protocol.specs.Shard.{ShardAct, finishes_page, then_says, on_finish}
use Rattle.rc_node.specs.declared.fault.NodeFault.{NodeFault}
use Rattle.rc_node.specs.Acts.{Acts, Refuses, shard_does}
use Rattle.rc_shard.specs.Rows.{asks}
use Rattle.rc_shard.specs.Sites.{ShardSite, site_of}
use Rattle.rc_shard.proofs.RowFacts.{one-finish}
use Rattle.rc_shard.proofs.finishing.finish.Goals as goal

pub returns-clause-ok : goal.returns-clause-ok
returns-clause-ok g c =
    let old : ShardSite = site_of g.L.LockTable.state c.args.tables.now (g.J.Journal.state c.args.journal.now) c.args.out.now in
    let new : ShardSite = site_of g.L.LockTable.state c.settle_page.new.tables (g.J.Journal.state c.settle_page.new.journal) c.settle_page.new.out in
    on_ok_weaker c.settle_page.result
    (subst (λ (a : ShardAct). Acts old new (shard_does old.durable a))
    (one-finish c.args.home.now.dc old.durable old.volatile c.args.tx c.args.decision.now c.in_ok-page.page (sym c.has.ensures ∙ c.if-has.false)
    (c.in_ok-page.ensures ∙ ap (λ (d : Decision). (c.args.tx, d) ∷ []) c.in_ok-copy.ensures)))
    c.settle_page.ensures.ok

pub returns-clause-err : goal.returns-clause-err
returns-clause-err g c =
    let old : ShardSite = site_of g.L.LockTable.state c.args.tables.now (g.J.Journal.state c.args.journal.now) c.args.out.now in
    let new : ShardSite = site_of g.L.LockTable.state c.settle_page.new.tables (g.J.Journal.state c.settle_page.new.journal) c.settle_page.new.out in
    IfErr-weaker c.settle_page.result
    (λ (f : NodeFault). Refuses f (g.J.Journal.may_leave c.settle_page.new.journal) old new (shard_does old.durable (then_says (finishes_page c.args.home.now.dc old.durable old.volatile c.in_ok-page.page) (asks c.args.home.now.dc None))))
    (λ (f : NodeFault). Refuses f (g.J.Journal.may_leave c.settle_page.new.journal) old new (shard_does old.durable (on_finish c.args.home.now.dc old.durable old.volatile c.args.tx c.args.decision.now)))
    (λ f. subst (λ (a : ShardAct). Refuses f (g.J.Journal.may_leave c.settle_page.new.journal) old new (shard_does old.durable a))
    (one-finish c.args.home.now.dc old.durable old.volatile c.args.tx c.args.decision.now c.in_ok-page.page (sym c.has.ensures ∙ c.if-has.false)
    (c.in_ok-page.ensures ∙ ap (λ (d : Decision). (c.args.tx, d) ∷ []) c.in_ok-copy.ensures)))
    c.settle_page.ensures.err
