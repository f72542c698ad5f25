use Rattle.rc_world.proofs.Weighing.{are_so, are_tested}
use Rattle.rc_world.proofs.world.World.begin.Goals as goal

pub invariant_of-self-clause-clients_are_of : goal.invariant_of-self-clause-clients_are_of
invariant_of-self-clause-clients_are_of g c =
    let cluster = c.args.self.now.cluster in
    are_tested cluster c.begin.new.self.cores (c.begin.ensures.of cluster (are_so cluster c.args.self.now.clients.cores c.args.self.now.clients_are_of))
