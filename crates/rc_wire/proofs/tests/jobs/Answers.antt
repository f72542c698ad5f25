use Rattle.std.proofs.Common.{length, ap, arith}
use Rattle.std.proofs.lemmas.List.{length_push}
use Rattle.rc_wire.proofs.Riders.{IsNewClient, last_apart}
use Rattle.rc_wire.proofs.tests.jobs.Goals as goal

pub loop-place-preserved : goal.loop-place-preserved
loop-place-preserved g c = record {
  clients = (last_apart IsNewClient c.loop-place.passes c.rider.new.passes c.in_ok-rider.rider.pass c.in_ok-rider.ensures c.loop-place.invariant.clients).0;
  count =
      let all = ap length c.in_ok-rider.ensures in
      let one = length_push c.rider.new.passes c.in_ok-rider.rider.pass in
      let more = c.in_ok-push.ensures.len in
      let before = c.loop-place.invariant.count in
      omega arith;
}
