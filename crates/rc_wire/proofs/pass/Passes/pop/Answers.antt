use Rattle.std.proofs.Common.{subst, arith}
use Rattle.rc_wire.specs.Places.{AreSeatsOf}
use Rattle.rc_wire.proofs.Dealing.{seats_front}
use Rattle.rc_wire.proofs.pass.Passes.pop.Goals as goal

pub new-requires : goal.new-requires
new-requires g c =
    (seats_front g.W.WireName.table g.W.WireName.names c.pop.new.self.items c.in_ok-at.at (subst (AreSeatsOf g.W.WireName.table g.W.WireName.names) c.in_ok-at.ensures.items c.self.invariant.0)).1

pub invariant_of-self-2 : goal.invariant_of-self-2
invariant_of-self-2 g c = (
  (seats_front g.W.WireName.table g.W.WireName.names c.pop.new.self.items c.in_ok-at.at (subst (AreSeatsOf g.W.WireName.table g.W.WireName.names) c.in_ok-at.ensures.items c.self.invariant.0)).0,
  let a = c.pop.ensures.capacity in let b = c.self.invariant.1 in omega arith,
)
