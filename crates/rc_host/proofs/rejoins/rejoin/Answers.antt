use Rattle.std.proofs.Common.{◌∙◌}
use Rattle.rc_log.specs.declared.log.Log.{Log}
use Rattle.rc_log.specs.Journals.{log_state}
use Rattle.rc_host.specs.Hosts.{sight}
use Rattle.rc_host.specs.Standing.{started_again}
use Rattle.rc_host.proofs.Rejoining.{not_started, put_down, started_is_up}
use Rattle.rc_host.proofs.rejoins.rejoin.Goals as goal

pub returns-in-Err-clause-err : goal.returns-in-Err-clause-err
returns-in-Err-clause-err g c = λ run x d is_node is_cluster down is told.
    let state = λ (l : Log g.row.D.Denot g.D.Disk). log_state (g.D.Disk.content l.disk) (g.D.Disk.told l.disk) (g.D.Disk.power l.disk) (g.D.Disk.faults l.disk) (g.D.Disk.cuts l.disk) l.end l.count l.limit l.failed l.frame.items in
    not_started (sight g.N.Node.seen state g.D.Disk.told g.D.Disk.content g.D.Disk.power) (g.N.Node.back run.node run.cluster) run x d c.in-Err.fault c.restart.new.host (c.in-Err.ensures.err run x d is_node is_cluster down is told)

pub returns-in-Err-ask-clause-err : goal.returns-in-Err-ask-clause-err
returns-in-Err-ask-clause-err g c = λ run x d is_node is_cluster down is told.
    let state = λ (l : Log g.row.D.Denot g.D.Disk). log_state (g.D.Disk.content l.disk) (g.D.Disk.told l.disk) (g.D.Disk.power l.disk) (g.D.Disk.faults l.disk) (g.D.Disk.cuts l.disk) l.end l.count l.limit l.failed l.frame.items in
    let s = sight g.N.Node.seen state g.D.Disk.told g.D.Disk.content g.D.Disk.power in
    let gives = g.N.Node.back run.node run.cluster in
    let began = c.in_default.ensures.ok run x d is_node is_cluster down is (c.ask.ensures.grew run.ended (c.crash.ensures.grew run.ended told)) in
    let up = started_is_up s gives run x began.device c.restart.new.host began.host in
    put_down s gives run x d c.args.host.now c.crash.new.host began.device down is began.opens
    (c.crash.ensures.stops run (started_again x) began.device (c.ask.ensures.same ∙ up) (c.in-Err-ask.ensures.err run (started_again x) began.device began.host))

pub returns-in-Err-ask-clause-grew : goal.returns-in-Err-ask-clause-grew
returns-in-Err-ask-clause-grew g c = λ ended told. c.restart.ensures.grew ended (c.ask.ensures.grew ended (c.crash.ensures.grew ended told))

pub returns-clause-ok : goal.returns-clause-ok
returns-clause-ok g c = λ run x d is_node is_cluster down is told.
    let state = λ (l : Log g.row.D.Denot g.D.Disk). log_state (g.D.Disk.content l.disk) (g.D.Disk.told l.disk) (g.D.Disk.power l.disk) (g.D.Disk.faults l.disk) (g.D.Disk.cuts l.disk) l.end l.count l.limit l.failed l.frame.items in
    let s = sight g.N.Node.seen state g.D.Disk.told g.D.Disk.content g.D.Disk.power in
    let gives = g.N.Node.back run.node run.cluster in
    let began = c.in_default.ensures.ok run x d is_node is_cluster down is (c.ask.ensures.grew run.ended told) in
    record {
      device = began.device;
      opens = began.opens;
      asked = c.in_default-ask.ensures.ok run (started_again x) began.device (started_is_up s gives run x began.device c.restart.new.host began.host) began.host;
    }

pub returns-clause-grew : goal.returns-clause-grew
returns-clause-grew g c = λ ended told. c.restart.ensures.grew ended (c.ask.ensures.grew ended told)
