use Rattle.std.proofs.Common.{arith}
use Rattle.rc_wire.proofs.Hubs.{hub_first, view_first}
use Rattle.rc_wire.proofs.hub.Hub.new.Goals as goal

pub invariant_of-result : goal.invariant_of-result
invariant_of-result c =
    hub_first c.args.rules c.new.result c.new-2.result.items c.in_ok-desks.desks.items c.in_ok-turns.turns.items _ _ c.args.parties.now c.new.ensures.sent c.new.ensures.pending c.new-2.ensures.items c.in_ok-desks.ensures c.in_ok-turns.ensures.items
    c.in_ok-turns.ensures.len (let e = c.in_ok-turns.ensures.exact in omega arith) c.requires.few c.requires.differ

pub returns : goal.returns
returns c = view_first c.args.rules c.in_ok-desks.desks.items c.in_ok-turns.turns.items c.args.parties.now c.in_ok-desks.ensures c.in_ok-turns.ensures.items
