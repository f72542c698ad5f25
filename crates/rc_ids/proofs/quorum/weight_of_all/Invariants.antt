use Rattle.std.proofs.Common.{◌≡◌, ◌*◌, ◌≤◌, take}
use Rattle.std.specs.Prelude.{sum}
use Rattle.rc_ids.proofs.quorum.weight_of_all.Given as goal

abbrev pub invariant-loop-own : goal.invariant-loop-own
invariant-loop-own l = (l.weight ≡ sum (take l.own-index l.weights)) × (l.weight ≤ 255 * l.own-index)
