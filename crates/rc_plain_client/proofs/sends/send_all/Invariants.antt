use Rattle.std.proofs.Common.{◌≡◌, ◌++◌}
use Rattle.rc_protocol.specs.Messages.{to_each, one, coordinator}
use Rattle.rc_plain_client.proofs.sends.send_all.Given as goal

abbrev pub invariant-loop-place : goal.invariant-loop-place
invariant-loop-place l = l.out ≡ l.initial.out ++ to_each l.place (λ d. one (coordinator d) l.msg)
