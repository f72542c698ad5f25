use Rattle.std.proofs.Common.{sym, subst, arith}
use Rattle.rc_wire.specs.Places.{AreSeatsOf}
use Rattle.rc_wire.proofs.Dealing.{seats_more}
use Rattle.rc_wire.proofs.pass.Passes.push.Goals as goal

pub invariant_of-self : goal.invariant_of-self
invariant_of-self g c = (
  subst (AreSeatsOf g.W.WireName.table g.W.WireName.names) (sym c.push_reserved.ensures.items)
      (seats_more g.W.WireName.table g.W.WireName.names c.self.inside.list.items c.pass.inside.at c.self.invariant.0 c.pass.invariant),
  let a = c.push_reserved.ensures.capacity in let b = c.self.invariant.1 in omega arith,
)
