use Rattle.std.proofs.Common.{◌≡◌, true}
use Rattle.rc_wire.specs.declared.turn.Act.TheVariants.{Rested}
use Rattle.rc_wire.specs.Standings.{at_first, after, standing}
use Rattle.rc_wire.proofs.riding.Rider.finish.Given as goal

abbrev pub invariant-loop : goal.invariant-loop
invariant-loop g l = record {
  can : (goal.iterator-loop g).can_next l.iterator';
  ends : (goal.iterator-loop g).is_finite l.iterator';
  ended : standing l.self.pass.mine ≡ after at_first (Rested true);
}
