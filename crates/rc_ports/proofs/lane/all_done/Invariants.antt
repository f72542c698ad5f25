use Rattle.std.proofs.Common.{◌≡◌, true, All, take}
use Rattle.rc_ports.proofs.lane.all_done.Given as goal

abbrev pub invariant-loop-lane : goal.invariant-loop-lane
invariant-loop-lane g l = l.done ≡ true → All (λ x. g.L.Lane.done x ≡ true) (take l.lane-index l.lanes)
