use Rattle.std.proofs.Common.{◌≡◌, ◌++◌}
use Rattle.rc_protocol.specs.Client.{asks_all}
use Rattle.rc_plain_client.proofs.sends.ask_all.Given as goal

abbrev pub invariant-loop-key : goal.invariant-loop-key
invariant-loop-key l = l.out ≡ l.initial.out ++ asks_all l.cluster l.tx l.yielded
