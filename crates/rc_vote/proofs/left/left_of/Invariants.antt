use Rattle.std.proofs.Common.{◌≡◌, ◌&&◌, not, filter}
use Rattle.std.specs.Ordering.{nat_cmp}
use Rattle.rc_ids.specs.Tables.{member, up_to}
use Rattle.rc_vote.proofs.left.left_of.Given as goal

abbrev pub invariant-loop-place : goal.invariant-loop-place
invariant-loop-place l = l.left ≡ filter (λ s. member nat_cmp l.touched s && not (member nat_cmp l.yes s)) (up_to l.place)
