-- The count of a disk's faults rises with each append that fails.
use Rattle.std.proofs.Common.{ℕ, suc, ◌+◌, ◌-◌, ◌≤◌, List, [], ◌∷◌, arith, min}
use Rattle.std.specs.Prelude.{◌^◌}
use Rattle.rc_ids.specs.declared.names.NodeId.{NodeId}
use Rattle.rc_runs.specs.World.{World}
use Rattle.rc_runs.specs.Refusals.{Happening, after_event}
use Rattle.rc_causes.specs.Faults.{Ends, Fails, FindsNoRoom, Goes, FaultsAreCounted}

none_yet : (n last : ℕ) → min (n + 0) last ≤ n
none_yet n last = omega arith

one_more : (before failed between now last : ℕ) → min (before + 1) last ≤ between → min (between + failed) last ≤ now → min (before + suc failed) last ≤ now
one_more before failed between now last rose rest = omega arith

no_more : (before failed between now last : ℕ) → before ≤ between → min (between + failed) last ≤ now → min (before + failed) last ≤ now
no_more before failed between now last later rest = omega arith

counted : (node : NodeId) (hs : List Happening) (w : World) → FaultsAreCounted node w hs
counted node [] w _ _ _ (Ends _ count) = none_yet count (2 ^ 64 - 1)
counted node (h ∷ later) w _ before now (Fails _ _ _ failed _ between _ event stopped rose rest) =
    one_more before failed between now (2 ^ 64 - 1) rose (counted node later (after_event w h) failed between now rest)
counted node (h ∷ later) w failed before now (FindsNoRoom _ _ _ _ _ between _ event stopped course up rest) =
    no_more before failed between now (2 ^ 64 - 1) up (counted node later (after_event w h) failed between now rest)
counted node (h ∷ later) w failed before now (Goes _ _ _ _ _ between _ none up rest) =
    no_more before failed between now (2 ^ 64 - 1) up (counted node later (after_event w h) failed between now rest)

pub faults_are_counted : (node : NodeId) (w : World) (hs : List Happening) → FaultsAreCounted node w hs
faults_are_counted node w hs = counted node hs w
