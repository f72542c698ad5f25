use Rattle.std.proofs.Common.{◌≡◌, ◌++◌, drop}
use Rattle.rc_protocol.specs.Coordinator.{finish_all_posts}
use Rattle.rc_plain_coord.proofs.sending.finishes_all.Given as goal

abbrev pub invariant-loop-index : goal.invariant-loop-index
invariant-loop-index l =
    l.out ++ finish_all_posts l.cluster l.dc (drop l.index l.page) ≡ l.initial.out ++ finish_all_posts l.cluster l.dc l.page
