use Rattle.std.proofs.Common.{◌≡◌, ◌++◌}
use Rattle.rc_protocol.specs.Client.{asks_again}
use Rattle.rc_plain_client.proofs.sends.ask_rests.Given as goal

abbrev pub invariant-loop-key : goal.invariant-loop-key
invariant-loop-key l = l.out ≡ l.initial.out ++ asks_again l.cluster l.tx l.slots l.yielded
