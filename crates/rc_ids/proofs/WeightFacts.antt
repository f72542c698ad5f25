-- Weights of sets.
use Rattle.std.proofs.Common.{◌≡◌, ℕ, ◌+◌, ◌<◌, cond, List, length, refl, get_or, drop, add-one}
use Rattle.std.proofs.Math.Seq.{drop-cons}
use Rattle.std.specs.Ordering.{nat_cmp}
use Rattle.rc_ids.specs.Tables.{member}
use Rattle.rc_ids.specs.Cluster.{weight_from}

-- the weight from one place on is that of the place and that from the next on
pub weight_from-drop : (d i : ℕ) (ws set : List ℕ) → i < length ws
    → weight_from d (drop i ws) set
    ≡ cond (member nat_cmp set d) (get_or ws i 0) 0 + weight_from (d + 1) (drop (i + 1) ws) set
weight_from-drop d i ws set lt = rw (add-one d, add-one i, drop-cons ws i 0 lt) refl
