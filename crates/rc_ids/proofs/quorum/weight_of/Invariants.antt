use Rattle.std.proofs.Common.{◌≡◌, ◌+◌, ◌*◌, ◌≤◌, drop}
use Rattle.rc_ids.specs.Cluster.{weight_from}
use Rattle.rc_ids.proofs.quorum.weight_of.Given as goal

abbrev pub invariant-loop-place : goal.invariant-loop-place
invariant-loop-place l =
    (l.weight + weight_from (l.place + 1) (drop l.place l.weights) l.set ≡ weight_from 1 l.weights l.set) × (l.weight ≤ 255 * l.place)
