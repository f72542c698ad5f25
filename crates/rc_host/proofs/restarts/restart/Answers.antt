use Rattle.std.proofs.Common.{sym, ◌∙◌}
use Rattle.rc_log.specs.declared.log.Log.{Log}
use Rattle.rc_log.specs.Journals.{log_state}
use Rattle.rc_host.specs.Hosts.{sight}
use Rattle.rc_host.specs.declared.host.Host.TheVariants.{Opened}
use Rattle.rc_host.proofs.Turning.{same_host}
use Rattle.rc_host.proofs.restarts.restart.Goals as goal

pub returns-in-Opened-clause-ok : goal.returns-in-Opened-clause-ok
returns-in-Opened-clause-ok g c = λ run x d is_node is_cluster down is kept.
    let state = λ (l : Log g.row.D.Denot g.D.Disk). log_state (g.D.Disk.content l.disk) (g.D.Disk.told l.disk) (g.D.Disk.power l.disk) (g.D.Disk.faults l.disk) (g.D.Disk.cuts l.disk) l.end l.count l.limit l.failed l.frame.items in
    c.start_opened-next.ensures.ok run x d is_node is_cluster
    (same_host (sight g.N.Node.seen state g.D.Disk.told g.D.Disk.content g.D.Disk.power) (g.N.Node.back run.node run.cluster) run c.args.host.now (Opened c.in-Opened.log c.in-Opened.records) x d (sym c.replace.ensures.value ∙ c.in-Opened.is) is)

pub returns-in-Opened-clause-err : goal.returns-in-Opened-clause-err
returns-in-Opened-clause-err g c = λ run x d is_node is_cluster down is kept.
    let state = λ (l : Log g.row.D.Denot g.D.Disk). log_state (g.D.Disk.content l.disk) (g.D.Disk.told l.disk) (g.D.Disk.power l.disk) (g.D.Disk.faults l.disk) (g.D.Disk.cuts l.disk) l.end l.count l.limit l.failed l.frame.items in
    c.start_opened-next.ensures.err run x d is_node is_cluster
    (same_host (sight g.N.Node.seen state g.D.Disk.told g.D.Disk.content g.D.Disk.power) (g.N.Node.back run.node run.cluster) run c.args.host.now (Opened c.in-Opened.log c.in-Opened.records) x d (sym c.replace.ensures.value ∙ c.in-Opened.is) is)
