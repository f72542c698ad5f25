use Rattle.rc_log.specs.declared.log.Log.{Log}
use Rattle.rc_log.specs.Journals.{log_state}
use Rattle.rc_host.specs.Hosts.{sight}
use Rattle.rc_host.proofs.Restarting.{already_open, has_started, has_not_started}
use Rattle.rc_host.proofs.restarts.start_opened.Goals as goal

pub returns-clause-ok : goal.returns-clause-ok
returns-clause-ok g c = λ run x d is_node is_cluster opened.
    let state = λ (l : Log g.row.D.Denot g.D.Disk). log_state (g.D.Disk.content l.disk) (g.D.Disk.told l.disk) (g.D.Disk.power l.disk) (g.D.Disk.faults l.disk) (g.D.Disk.cuts l.disk) l.end l.count l.limit l.failed l.frame.items in
    has_started (sight g.N.Node.seen state g.D.Disk.told g.D.Disk.content g.D.Disk.power) (g.N.Node.back run.node run.cluster) run c.start.result.0 x d d (already_open d opened.is_open) c.start.result.1 (c.start.ensures.ok run x d is_node is_cluster opened)

pub returns-clause-err : goal.returns-clause-err
returns-clause-err g c = λ run x d is_node is_cluster opened.
    let state = λ (l : Log g.row.D.Denot g.D.Disk). log_state (g.D.Disk.content l.disk) (g.D.Disk.told l.disk) (g.D.Disk.power l.disk) (g.D.Disk.faults l.disk) (g.D.Disk.cuts l.disk) l.end l.count l.limit l.failed l.frame.items in
    has_not_started (sight g.N.Node.seen state g.D.Disk.told g.D.Disk.content g.D.Disk.power) (g.N.Node.back run.node run.cluster) run c.start.result.0 x d d (already_open d opened.is_open) c.start.result.1 (c.start.ensures.err run x d is_node is_cluster opened)
