use Rattle.std.proofs.Common.{ℕ, List, ap, subst, ◌∙◌}
use Rattle.rc_ids.specs.Tables.{Table}
use Rattle.rc_ids.specs.declared.names.Outcome.{Outcome}
use Rattle.rc_body.specs.Rows.{Row}
use Rattle.rc_record.specs.InOrder.{filed}
use Rattle.rc_node.specs.Acts.{Enters}
use Rattle.rc_locks.specs.LockSets.{LockSets, after_finish}
use Rattle.rc_shard.specs.Plans.{newest_all}
use Rattle.rc_shard.proofs.SettleFacts.{settled_acts}
use Rattle.rc_shard.proofs.settling.settle_page.Goals as goal

pub returns-in-Ok-clause-ok : goal.returns-in-Ok-clause-ok
returns-in-Ok-clause-ok g c =
    let rows : List Row = c.args.tables.now.versions.rows in
    let locks : LockSets = g.L.LockTable.state c.args.tables.now.locks in
    let finished : Table ℕ Outcome = c.args.tables.now.finished.table in
    let page = c.args.page.now in
    settled_acts c.args.home.now.dc rows locks finished c.args.tables.now.place page c.len-entries.ensures.page.apart c.requires.new
    (g.J.Journal.state c.args.journal.now) (g.J.Journal.state c.append.new.journal) c.args.out.now c.get_ready.new.out c.args.ask
    c.apply.new.tables.versions.rows (g.L.LockTable.state c.apply.new.tables.locks) c.apply.new.tables.finished.table c.apply.new.tables.place
    (c.apply.ensures.rows ∙ ap (λ (r : List Row). newest_all r c.in_ok-plan.plan.writes.items) c.get_ready.ensures.rows ∙ ap (newest_all rows) c.in_ok-plan.ensures.writes)
    (c.apply.ensures.locks ∙ ap (λ (l : LockSets). after_finish l c.in_ok-plan.plan.txs.items) c.get_ready.ensures.locks ∙ ap (after_finish locks) c.in_ok-plan.ensures.txs)
    (c.apply.ensures.finished ∙ ap (λ (t : Table ℕ Outcome). filed t c.in_ok-plan.plan.outcomes.items) c.get_ready.ensures.finished ∙ ap (filed finished) c.in_ok-plan.ensures.outcomes)
    (c.apply.ensures.place ∙ c.get_ready.ensures.place)
    (subst (Enters (g.J.Journal.state c.args.journal.now) (g.J.Journal.state c.append.new.journal))
    (c.as_bytes.ensures ∙ c.in_ok-plan.ensures.bytes) c.in-Ok.ensures.done)
    c.in_ok-plan.ensures.sends
