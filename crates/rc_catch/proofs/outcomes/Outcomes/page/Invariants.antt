use Rattle.std.proofs.Common.{◌≡◌, ◌-◌, take, drop}
use Rattle.rc_catch.proofs.outcomes.Outcomes.page.Given as goal

abbrev pub invariant-loop-index : goal.invariant-loop-index
invariant-loop-index l = l.page ≡ take (l.index - l.first) (drop l.first l.self-inside.list.entries)
