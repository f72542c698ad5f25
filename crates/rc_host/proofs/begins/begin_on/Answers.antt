use Rattle.rc_host.specs.Begins.{standing_from}
use Rattle.rc_host.proofs.Beginning.{up_from, new_from, closed_kept}
use Rattle.rc_host.proofs.begins.begin_on.Goals as goal

pub returns-in-Ok-take_up-clause-ok : goal.returns-in-Ok-take_up-clause-ok
returns-in-Ok-take_up-clause-ok g c = λ run d is_node is_cluster has stored told.
    let ready = c.in-Ok.ensures.ok run d is_node is_cluster has stored (c.in-Ok-take_up.ensures.grew run.ended told) in
    record {
      begun = ready.begun;
      is = ready.is;
      log = ready.records;
      host =
          c.in-Ok-take_up.ensures.ok run (standing_from run.node ready.begun.log) ready.begun.device ready.now is_node is_cluster ready.log (up_from run.node ready.begun.log) ready.durable_is
          (new_from run.node ready.begun.log);
    }

pub returns-in-Err-clause-err : goal.returns-in-Err-clause-err
returns-in-Err-clause-err g c = λ run d is_node is_cluster stored told.
    c.in-Err.ensures.err run d is_node is_cluster stored (closed_kept (g.D.Disk.told c.prepare.new.log.disk) (g.D.Disk.told c.closed.result) run.ended c.closed.ensures.told told)
