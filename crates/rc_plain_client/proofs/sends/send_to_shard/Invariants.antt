use Rattle.std.proofs.Common.{◌≡◌, ◌++◌}
use Rattle.rc_protocol.specs.Messages.{to_each, one, shard_server}
use Rattle.rc_plain_client.proofs.sends.send_to_shard.Given as goal

abbrev pub invariant-loop-place : goal.invariant-loop-place
invariant-loop-place l = l.out ≡ l.initial.out ++ to_each l.place (λ d. one (shard_server d l.shard) l.msg)
