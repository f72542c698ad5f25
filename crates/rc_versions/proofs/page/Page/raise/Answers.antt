use Rattle.std.proofs.Common.{true, sym, ap, ◌∙◌}
use Rattle.rc_versions.specs.Rows.{rank}
use Rattle.rc_versions.proofs.RowFacts.{held_there}
use Rattle.rc_versions.proofs.page.Page.raise.Goals as goal

pub raise_at-requires-clause-there : goal.raise_at-requires-clause-there
raise_at-requires-clause-there c =
    held_there c.args.key.now c.args.self.now c.deref_mut.result.now c.count_below-place.result true (c.deref_mut.ensures.value ∙ c.self.view_is)
    c.requires.rises (c.count_below-place.ensures.count ∙ ap (rank c.args.key.now) (c.deref.ensures.value ∙ sym c.deref_mut.ensures.value))
    c.requires.there
