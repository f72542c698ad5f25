use Rattle.std.proofs.Common.{sym, ◌∙◌}
use Rattle.rc_log.specs.declared.log.Log.{Log}
use Rattle.rc_log.specs.Journals.{log_state}
use Rattle.rc_host.specs.Hosts.{sight}
use Rattle.rc_host.specs.declared.host.Host.TheVariants.{Up}
use Rattle.rc_host.specs.AnyNode.{node_act}
use Rattle.rc_host.specs.Causes.{cause_of}
use Rattle.rc_host.proofs.Turning.{counts_from, same_host}
use Rattle.rc_host.proofs.host.act.Goals as goal

pub returns-in-Up-clause-ok : goal.returns-in-Up-clause-ok
returns-in-Up-clause-ok g c = λ run x d up is has told.
    let s = sight g.N.Node.seen
    (λ (l : Log g.row.D.Denot g.D.Disk). log_state (g.D.Disk.content l.disk) (g.D.Disk.told l.disk) (g.D.Disk.power l.disk) (g.D.Disk.faults l.disk) (g.D.Disk.cuts l.disk) l.end l.count l.limit l.failed l.frame.items)
    g.D.Disk.told g.D.Disk.content g.D.Disk.power in
    c.turn-next.ensures.ok run x d (same_host s (g.N.Node.back run.node run.cluster) run c.args.host.now (Up c.in-Up.node) x d (sym c.replace.ensures.value ∙ c.in-Up.is) is) has told

pub returns-in-Up-clause-err : goal.returns-in-Up-clause-err
returns-in-Up-clause-err g c = λ run x d up is has told.
    let s = sight g.N.Node.seen
    (λ (l : Log g.row.D.Denot g.D.Disk). log_state (g.D.Disk.content l.disk) (g.D.Disk.told l.disk) (g.D.Disk.power l.disk) (g.D.Disk.faults l.disk) (g.D.Disk.cuts l.disk) l.end l.count l.limit l.failed l.frame.items)
    g.D.Disk.told g.D.Disk.content g.D.Disk.power in
    c.turn-next.ensures.err run x d (same_host s (g.N.Node.back run.node run.cluster) run c.args.host.now (Up c.in-Up.node) x d (sym c.replace.ensures.value ∙ c.in-Up.is) is) has told

pub returns-in-Up-clause-counts : goal.returns-in-Up-clause-counts
returns-in-Up-clause-counts g c = λ run x d up is.
    let s = sight g.N.Node.seen
    (λ (l : Log g.row.D.Denot g.D.Disk). log_state (g.D.Disk.content l.disk) (g.D.Disk.told l.disk) (g.D.Disk.power l.disk) (g.D.Disk.faults l.disk) (g.D.Disk.cuts l.disk) l.end l.count l.limit l.failed l.frame.items)
    g.D.Disk.told g.D.Disk.content g.D.Disk.power in
    let same = sym c.replace.ensures.value ∙ c.in-Up.is in
    counts_from s c.turn-next.result.1 c.args.host.now (Up c.in-Up.node) c.turn-next.result.0 (node_act run.cluster run.node x.durable x.volatile (cause_of c.args.cause.now)) (sym same)
    (c.turn-next.ensures.counts run x d (same_host s (g.N.Node.back run.node run.cluster) run c.args.host.now (Up c.in-Up.node) x d same is))
