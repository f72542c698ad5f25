use Rattle.rc_host.proofs.Beginning.{owed_stays, added_stays, ready_at, not_ready_at, refused_at}
use Rattle.rc_host.proofs.begins.prepare.Goals as goal

pub returns-in-Ok-add_owed-clause-ok : goal.returns-in-Ok-add_owed-clause-ok
returns-in-Ok-add_owed-clause-ok g c = λ run d is_node is_cluster has stored told.
    ready_at g.N.Node.gives g.N.Node.replayed g.N.Node.back run c.args.node.now c.args.cluster.now (g.met.N.Node.begins c.args.node.now c.args.cluster.now c.requires.kind) is_node is_cluster c.args.records.now d _ stored _ c.in-Ok.durable c.in-Ok.ensures.ok has c.in-Ok-add_owed.ensures.owes c.in-Ok-add_owed.ensures.has told

pub returns-in-Ok-add_owed-clause-grew : goal.returns-in-Ok-add_owed-clause-grew
returns-in-Ok-add_owed-clause-grew g c = λ ended kept. added_stays _ _ _ _ ended c.in-Ok-add_owed.ensures.owes c.in-Ok-add_owed.ensures.has kept

pub returns-in-Err-add_owed-clause-err : goal.returns-in-Err-add_owed-clause-err
returns-in-Err-add_owed-clause-err g c = λ run d is_node is_cluster stored told.
    not_ready_at g.N.Node.gives g.N.Node.replayed g.N.Node.back run c.args.node.now c.args.cluster.now (g.met.N.Node.begins c.args.node.now c.args.cluster.now c.requires.kind) is_node is_cluster c.args.records.now d _ stored c.in-Err-add_owed.fault _ c.in-Ok.durable c.in-Ok.ensures.ok c.in-Err-add_owed.ensures.err told

pub returns-in-Err-add_owed-clause-grew : goal.returns-in-Err-add_owed-clause-grew
returns-in-Err-add_owed-clause-grew g c = λ ended kept. owed_stays c.in-Err-add_owed.fault _ _ _ _ ended c.in-Err-add_owed.ensures.err kept

pub returns-in-Err-clause-err : goal.returns-in-Err-clause-err
returns-in-Err-clause-err g c = λ run d is_node is_cluster stored told.
    refused_at g.N.Node.gives g.N.Node.replayed g.N.Node.back run c.args.node.now c.args.cluster.now (g.met.N.Node.begins c.args.node.now c.args.cluster.now c.requires.kind) is_node is_cluster c.args.records.now d _ stored c.in-Err.fault c.refused.result c.refused.ensures c.in-Err.ensures.err
