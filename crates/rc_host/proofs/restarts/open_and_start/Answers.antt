use Rattle.std.proofs.Common.{refl}
use Rattle.rc_log.specs.declared.log.Log.{Log}
use Rattle.rc_log.specs.Journals.{log_state}
use Rattle.rc_host.specs.Hosts.{sight}
use Rattle.rc_host.proofs.Growing.{told_stays, refusal_stays}
use Rattle.rc_host.proofs.Restarting.{differs, opens_down, shut_down, lacks_down, has_started, has_not_started}
use Rattle.rc_host.proofs.restarts.open_and_start.Goals as goal

pub returns-in-Ok-clause-ok : goal.returns-in-Ok-clause-ok
returns-in-Ok-clause-ok g c = λ run x d is_node is_cluster is kept.
    let gives = g.N.Node.back run.node run.cluster in
    let state = λ (l : Log g.row.D.Denot g.D.Disk). log_state (g.D.Disk.content l.disk) (g.D.Disk.told l.disk) (g.D.Disk.power l.disk) (g.D.Disk.faults l.disk) (g.D.Disk.cuts l.disk) l.end l.count l.limit l.failed l.frame.items in
    let done = opens_down g.D.Disk.told g.D.Disk.content g.D.Disk.power gives run c.args.disk x d is (g.met.D.Disk.told_content c.args.disk) (g.D.Disk.told c.power_on.new.self) (g.D.Disk.content c.power_on.new.self) c.power_on.ensures.told
    (g.met.D.Disk.told_content c.power_on.new.self) state c.in-Ok.log c.in-Ok.records (g.D.Disk.power c.power_on.new.self) c.power_on.ensures.power c.in-Ok.ensures.records c.in-Ok.ensures.begins (c.start.ensures.grew run.ended kept) in
    has_started (sight g.N.Node.seen state g.D.Disk.told g.D.Disk.content g.D.Disk.power) gives run c.start.result.0 x d _ done.1 c.start.result.1 (c.start.ensures.ok run x _ is_node is_cluster done.0)

pub returns-in-Ok-clause-err : goal.returns-in-Ok-clause-err
returns-in-Ok-clause-err g c = λ run x d is_node is_cluster is kept.
    let gives = g.N.Node.back run.node run.cluster in
    let state = λ (l : Log g.row.D.Denot g.D.Disk). log_state (g.D.Disk.content l.disk) (g.D.Disk.told l.disk) (g.D.Disk.power l.disk) (g.D.Disk.faults l.disk) (g.D.Disk.cuts l.disk) l.end l.count l.limit l.failed l.frame.items in
    let done = opens_down g.D.Disk.told g.D.Disk.content g.D.Disk.power gives run c.args.disk x d is (g.met.D.Disk.told_content c.args.disk) (g.D.Disk.told c.power_on.new.self) (g.D.Disk.content c.power_on.new.self) c.power_on.ensures.told
    (g.met.D.Disk.told_content c.power_on.new.self) state c.in-Ok.log c.in-Ok.records (g.D.Disk.power c.power_on.new.self) c.power_on.ensures.power c.in-Ok.ensures.records c.in-Ok.ensures.begins (c.start.ensures.grew run.ended kept) in
    has_not_started (sight g.N.Node.seen state g.D.Disk.told g.D.Disk.content g.D.Disk.power) gives run c.start.result.0 x d _ done.1 c.start.result.1 (c.start.ensures.err run x _ is_node is_cluster done.0)

pub returns-in-Ok-clause-grew : goal.returns-in-Ok-clause-grew
returns-in-Ok-clause-grew g c = λ ended kept.
    told_stays (g.D.Disk.told c.args.disk) (g.D.Disk.told c.power_on.new.self) (g.D.Disk.told c.in-Ok.log.disk) ended c.power_on.ensures.told c.in-Ok.ensures.begins.calls (c.start.ensures.grew ended kept)

pub returns-in-Err-NoMemory-default-clause-err : goal.returns-in-Err-NoMemory-default-clause-err
returns-in-Err-NoMemory-default-clause-err g c = λ run x d is_node is_cluster is kept.
    let gives = g.N.Node.back run.node run.cluster in
    let state = λ (l : Log g.row.D.Denot g.D.Disk). log_state (g.D.Disk.content l.disk) (g.D.Disk.told l.disk) (g.D.Disk.power l.disk) (g.D.Disk.faults l.disk) (g.D.Disk.cuts l.disk) l.end l.count l.limit l.failed l.frame.items in
    lacks_down g.D.Disk.told g.D.Disk.content g.D.Disk.power gives run c.args.disk x d is (g.met.D.Disk.told_content c.args.disk) (g.D.Disk.told c.power_on.new.self) (g.D.Disk.content c.power_on.new.self) c.power_on.ensures.told (g.met.D.Disk.told_content c.power_on.new.self)
    (sight g.N.Node.seen state g.D.Disk.told g.D.Disk.content g.D.Disk.power) c.in-Err-NoMemory-default.disk c.in-Err-NoMemory-default.field-0-0 _ (g.D.Disk.power c.power_on.new.self) _ _ _ _ refl refl refl c.in-Err-NoMemory-default.field-0-0-is c.power_on.ensures.power c.in-Err-NoMemory-default.ensures.refused (c.in-Err-NoMemory-default.ensures.same (differs _ c.in-Err-NoMemory-default.field-0-0-is)) kept

pub returns-in-Err-NoMemory-default-clause-grew : goal.returns-in-Err-NoMemory-default-clause-grew
returns-in-Err-NoMemory-default-clause-grew g c = λ ended kept.
    refusal_stays _ _ (g.D.Disk.told c.args.disk) (g.D.Disk.told c.power_on.new.self) (g.D.Disk.told c.in-Err-NoMemory-default.disk) ended _ _ _ _ _ _ c.power_on.ensures.told c.in-Err-NoMemory-default.ensures.refused kept

pub returns-in-Err-Failed-default-clause-err : goal.returns-in-Err-Failed-default-clause-err
returns-in-Err-Failed-default-clause-err g c = λ run x d is_node is_cluster is kept. (
  shut_down g.D.Disk.told g.D.Disk.content g.D.Disk.power (g.N.Node.back run.node run.cluster) run c.args.disk x d is (g.met.D.Disk.told_content c.args.disk) (g.D.Disk.told c.power_on.new.self) (g.D.Disk.content c.power_on.new.self) c.power_on.ensures.told (g.met.D.Disk.told_content c.power_on.new.self)
      c.in-Err-Failed-default.field-0-0 _ (g.D.Disk.told c.in-Err-Failed-default.disk) _ _ _ _ _ _ c.in-Err-Failed-default.field-0-0-is c.power_on.ensures.power c.in-Err-Failed-default.ensures.refused kept,
  tt,
)

pub returns-in-Err-Failed-default-clause-grew : goal.returns-in-Err-Failed-default-clause-grew
returns-in-Err-Failed-default-clause-grew g c = λ ended kept.
    refusal_stays _ _ (g.D.Disk.told c.args.disk) (g.D.Disk.told c.power_on.new.self) (g.D.Disk.told c.in-Err-Failed-default.disk) ended _ _ _ _ _ _ c.power_on.ensures.told c.in-Err-Failed-default.ensures.refused kept

pub returns-in-Err-Damaged-default-clause-grew : goal.returns-in-Err-Damaged-default-clause-grew
returns-in-Err-Damaged-default-clause-grew g c = λ ended kept.
    refusal_stays _ _ (g.D.Disk.told c.args.disk) (g.D.Disk.told c.power_on.new.self) (g.D.Disk.told c.in-Err-Damaged-default.disk) ended _ _ _ _ _ _ c.power_on.ensures.told c.in-Err-Damaged-default.ensures.refused kept
