use Rattle.std.proofs.Common.{◌-◌, ◌≤◌, vec_len}
use Rattle.rc_versions.specs.Pages.{AreEmpty}
use Rattle.rc_versions.proofs.spares.fill.Given as goal

abbrev pub invariant-loop-pages : goal.invariant-loop-pages
invariant-loop-pages l = AreEmpty l.pages.items × (vec_len l.fn.pages ≤ vec_len l.pages)

abbrev pub decreases-loop-pages : goal.decreases-loop-pages
decreases-loop-pages l = l.count - vec_len l.pages
