use Rattle.std.proofs.Common.{arith}
use Rattle.rc_ports.proofs.Pieces.{taken_on}
use Rattle.rc_ports.proofs.whole.write_all.Goals as goal

pub loop-rest-preserved : goal.loop-rest-preserved
loop-rest-preserved g c =
    let call = c.in_ok-count.ensures in
    record {
      so_far = taken_on _ _ _ _ _ _ _ c.loop-rest.invariant.so_far call.bound c.split_at.ensures.back call.bytes;
      later = omega (arith, call.cause.later);
    }
