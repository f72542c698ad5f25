use Rattle.std.proofs.Common.{sym, ◌∙◌}
use Rattle.rc_shard.proofs.RowFacts.{page-acts}
use Rattle.rc_shard.proofs.finishing.take_page.Goals as goal

pub returns-clause-ok : goal.returns-clause-ok
returns-clause-ok g c =
    page-acts c.args.home.now.dc c.args.tables.now.versions.rows c.settle_page.new.tables.versions.rows
    (g.L.LockTable.state c.args.tables.now.locks) (g.L.LockTable.state c.settle_page.new.tables.locks)
    c.args.tables.now.finished.table c.settle_page.new.tables.finished.table c.args.tables.now.place c.settle_page.new.tables.place
    (g.J.Journal.state c.args.journal.now) (g.J.Journal.state c.settle_page.new.journal) c.args.out.now c.settle_page.new.out c.args.ask c.args.next
    c.args.left.now (sym c.is_empty.ensures ∙ c.if-is_empty.false) c.in_ok-settle_page.ensures.ok
