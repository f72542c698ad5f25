use Rattle.std.proofs.Common.{◌≡◌, ◌==◌, ◌++◌, [], if◌then◌else◌}
use Rattle.rc_msg.specs.declared.msg.Msg.TheVariants.{CatchAsk}
use Rattle.rc_protocol.specs.Messages.{to_each, one, coordinator}
use Rattle.rc_protocol.specs.Coordinator.{cursor_of}
use Rattle.rc_plain_coord.proofs.catching.catch_up.Given as goal

abbrev pub invariant-loop-place : goal.invariant-loop-place
invariant-loop-place l =
    l.out ≡ l.initial.out ++ to_each l.place (λ e. if e == l.dc then [] else one (coordinator e) (CatchAsk (cursor_of l.volatile e)))
