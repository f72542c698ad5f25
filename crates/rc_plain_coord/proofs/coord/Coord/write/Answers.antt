use Rattle.std.proofs.Common.{ap}
use Rattle.rc_protocol.specs.Nodes.{CoordNode}
use Rattle.rc_plain_coord.proofs.ReplayFacts.{written, written_node}
use Rattle.rc_plain_coord.proofs.coord.Coord.write.Goals as goal

pub invariant_of-self-2 : goal.invariant_of-self-2
invariant_of-self-2 c =
    written c.self.inside.log.items c.push.new.self.items c.args.entry c.args.self.now c.args.durable c.apply.new.durable c.in_ok-push.ensures.items
    (ap (λ (x : CoordNode). x.durable) c.self.view_is) c.requires c.in_ok-apply.ensures

pub returns-clause-ok : goal.returns-clause-ok
returns-clause-ok c =
    written_node c.self.inside.up c.self.inside.log.items c.push.new.self.items c.self.inside.volatile c.args.entry c.args.self.now
    c.in_ok-push.ensures.items c.self.view_is
