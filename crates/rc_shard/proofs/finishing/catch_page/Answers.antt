use Rattle.std.proofs.Common.{sym, subst}
use Rattle.rc_shard.specs.Plans.{AreNew}
use Rattle.rc_shard.specs.Rows.{only_finished}
use Rattle.rc_shard.proofs.RowFacts.{unfinished-new}
use Rattle.rc_shard.proofs.finishing.catch_page.Goals as goal

pub take_page-requires-clause-new : goal.take_page-requires-clause-new
take_page-requires-clause-new g c =
    subst (AreNew c.args.tables.now.finished.table) (sym c.in_ok-left.ensures)
    (unfinished-new c.args.home.now.cluster c.args.home.now.shard (only_finished c.args.tables.now.finished.table) c.args.page.now)
