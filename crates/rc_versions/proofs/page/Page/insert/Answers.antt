use Rattle.std.proofs.Common.{false, ap, ◌∙◌}
use Rattle.rc_versions.specs.Rows.{rank}
use Rattle.rc_versions.proofs.RowFacts.{held_there}
use Rattle.rc_versions.proofs.page.Page.insert.Goals as goal

pub insert_at-requires-clause-absent : goal.insert_at-requires-clause-absent
insert_at-requires-clause-absent c =
    held_there c.args.key.now c.args.self.now c.self.inside.rows.items c.count_below-place.result false c.self.view_is c.requires.rises
    (c.count_below-place.ensures.count ∙ ap (rank c.args.key.now) c.deref.ensures.value) c.requires.absent
