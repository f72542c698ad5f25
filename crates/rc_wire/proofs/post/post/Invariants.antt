use Rattle.std.proofs.Common.{◌≡◌, ◌+◌, ◌-◌, ◌≤◌, ◌++◌, vec_len, vec_capacity}
use Rattle.rc_net.specs.Network.{messages}
use Rattle.rc_wire.specs.Traffic.{traffic_of}
use Rattle.rc_wire.proofs.Arrivals.{half}
use Rattle.rc_wire.proofs.post.post.Given as goal

abbrev pub invariant-loop-number : goal.invariant-loop-number
invariant-loop-number l = record {
  low : l.first ≤ l.number;
  high : l.number ≤ l.last;
  traffic : traffic_of l.net l.again.items ≡ half l.rules (traffic_of l.fn.net l.fn.again.items) (l.fn.net.sent ++ messages l.party l.fn.sends) l.first l.number l.last;
  room : vec_len l.again + (l.last - l.number) ≤ vec_capacity l.again;
}

abbrev pub decreases-loop-number : goal.decreases-loop-number
decreases-loop-number l = l.last - l.number
