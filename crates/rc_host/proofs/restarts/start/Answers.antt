use Rattle.rc_host.proofs.Restarting.{given}
use Rattle.rc_host.proofs.restarts.start.Goals as goal

pub returns-in-Ok-clause-ok : goal.returns-in-Ok-clause-ok
returns-in-Ok-clause-ok g c = λ run x d is_node is_cluster opened.
    c.put_up.ensures.ok run x d is_node is_cluster opened
    (given g.N.Node.gives g.N.Node.replayed g.N.Node.back g.met.N.Node.gives_back c.args.node.now run.node c.args.cluster.now run.cluster c.args.records x.durable c.in-Ok.durable is_node is_cluster c.in-Ok.ensures.ok opened.log.holds.back)

pub returns-in-Ok-clause-err : goal.returns-in-Ok-clause-err
returns-in-Ok-clause-err g c = λ run x d is_node is_cluster opened.
    c.put_up.ensures.err run x d is_node is_cluster opened
    (given g.N.Node.gives g.N.Node.replayed g.N.Node.back g.met.N.Node.gives_back c.args.node.now run.node c.args.cluster.now run.cluster c.args.records x.durable c.in-Ok.durable is_node is_cluster c.in-Ok.ensures.ok opened.log.holds.back)
