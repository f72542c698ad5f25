use Rattle.std.proofs.Common.{◌≡◌, [], ◌++◌, nat_cmp}
use Rattle.std.specs.Prelude.{if◌then◌else◌}
use Rattle.rc_ids.specs.Tables.{member}
use Rattle.rc_protocol.specs.Messages.{to_each, one, shard_server}
use Rattle.rc_plain_client.proofs.sends.send_to_others.Given as goal

abbrev pub invariant-loop-place : goal.invariant-loop-place
invariant-loop-place l =
    l.out ≡ l.initial.out ++ to_each l.place (λ d. if member nat_cmp l.granted d then [] else one (shard_server d l.shard) l.msg)
