use Rattle.std.proofs.Common.{IfSome, ◌∷◌, length, sym}
use Rattle.rc_log.specs.declared.log.Log.{Log}
use Rattle.rc_log.specs.Journals.{log_state}
use Rattle.rc_devices.specs.Disks.{IsKept}
use Rattle.rc_log.specs.Records.{size_of}
use Rattle.rc_runs.specs.Devices.{at_offset, read_once, called, powered}
use Rattle.rc_runs.specs.Stored.{takes_log, opens_log}
use Rattle.rc_host.specs.Hosts.{sight, IsToldBy}
use Rattle.rc_host.proofs.Beginning.{closed_kept}
use Rattle.rc_host.proofs.Growing.{opening_stays, no_opening_stays}
use Rattle.rc_host.proofs.BeginGrown.{grew_as, grew_err_as}
use Rattle.rc_host.proofs.Starting.{opens_it, opening_failed, damaged, as_long, begun_as, not_begun_as}
use Rattle.rc_host.proofs.begins.open_and_begin.Goals as goal

pub returns-in-Ok-clause-ok : goal.returns-in-Ok-clause-ok
returns-in-Ok-clause-ok g c = λ run d b bytes is_node is_cluster has is.
    let state = (λ (l : Log g.row.D.Denot g.D.Disk). log_state (g.D.Disk.content l.disk) (g.D.Disk.told l.disk) (g.D.Disk.power l.disk) (g.D.Disk.faults l.disk) (g.D.Disk.cuts l.disk) l.end l.count l.limit l.failed l.frame.items) in
    let made = λ (kept : IfSome (g.D.Disk.told c.in-Ok.log.disk) (λ t. IsKept t run.ended)). opens_it g.D.Disk.told g.D.Disk.content g.D.Disk.power run c.args.disk (b ∷ bytes) d is (state c.in-Ok.log) c.in-Ok.records c.in-Ok.ensures.records c.in-Ok.ensures.begins kept in
    begun_as (sight g.N.Node.seen state g.D.Disk.told g.D.Disk.content g.D.Disk.power) (g.N.Node.back run.node run.cluster) run (takes_log run.cluster run.node (at_offset (read_once (called (powered d))) (size_of c.in-Ok.records)) c.in-Ok.records) (opens_log run.cluster run.node d (b ∷ bytes)) (λ ended. IfSome (g.D.Disk.told c.in-Ok.log.disk) (λ t. IsKept t ended)) c.begin_on.result c.begin_on.ensures.grew
    (λ kept. c.begin_on.ensures.ok run (at_offset (read_once (called (powered d))) (size_of c.in-Ok.records)) is_node is_cluster has (made kept).0) (λ kept. (made kept).1)

pub returns-in-Ok-clause-err : goal.returns-in-Ok-clause-err
returns-in-Ok-clause-err g c = λ run d b bytes is_node is_cluster is.
    let state = (λ (l : Log g.row.D.Denot g.D.Disk). log_state (g.D.Disk.content l.disk) (g.D.Disk.told l.disk) (g.D.Disk.power l.disk) (g.D.Disk.faults l.disk) (g.D.Disk.cuts l.disk) l.end l.count l.limit l.failed l.frame.items) in
    let made = λ (kept : IfSome (g.D.Disk.told c.in-Ok.log.disk) (λ t. IsKept t run.ended)). opens_it g.D.Disk.told g.D.Disk.content g.D.Disk.power run c.args.disk (b ∷ bytes) d is (state c.in-Ok.log) c.in-Ok.records c.in-Ok.ensures.records c.in-Ok.ensures.begins kept in
    not_begun_as (sight g.N.Node.seen state g.D.Disk.told g.D.Disk.content g.D.Disk.power) (g.N.Node.back run.node run.cluster) run (takes_log run.cluster run.node (at_offset (read_once (called (powered d))) (size_of c.in-Ok.records)) c.in-Ok.records) (opens_log run.cluster run.node d (b ∷ bytes)) (λ ended. IfSome (g.D.Disk.told c.in-Ok.log.disk) (λ t. IsKept t ended)) c.begin_on.result c.begin_on.ensures.grew_err
    (λ kept. c.begin_on.ensures.err run (at_offset (read_once (called (powered d))) (size_of c.in-Ok.records)) is_node is_cluster (made kept).0) (λ kept. (made kept).1)

pub returns-in-Err-Failed-default-clause-err : goal.returns-in-Err-Failed-default-clause-err
returns-in-Err-Failed-default-clause-err g c = λ run d b bytes is_node is_cluster is told.
    opening_failed g.D.Disk.told g.D.Disk.content g.D.Disk.power run c.args.disk (b ∷ bytes) d is c.in-Err-Failed-default.field-0-0 _ (g.D.Disk.told c.in-Err-Failed-default.disk) _ _ _ _ _ _ c.in-Err-Failed-default.field-0-0-is is.on c.in-Err-Failed-default.ensures.refused
    (closed_kept (g.D.Disk.told c.in-Err-Failed-default.disk) (g.D.Disk.told c.powered-in-Err-Failed-default.result) run.ended c.powered-in-Err-Failed-default.ensures.told told)

pub returns-in-Err-Damaged-default-clause-err : goal.returns-in-Err-Damaged-default-clause-err
returns-in-Err-Damaged-default-clause-err g c = λ run d b bytes is_node is_cluster is told.
    damaged g.D.Disk.told g.D.Disk.content g.D.Disk.power run c.args.disk (b ∷ bytes) d is c.in-Err-Damaged-default.field-0-0 c.in-Err-Damaged-default.place _ (sym c.in-Err-Damaged-default.place-is) _ (g.D.Disk.told c.in-Err-Damaged-default.disk) _ _ _ _ _ _ c.in-Err-Damaged-default.field-0-0-is c.in-Err-Damaged-default.ensures.damage
    (length bytes) (as_long g.D.Disk.told g.D.Disk.content g.D.Disk.power run c.args.disk (b ∷ bytes) d is (g.D.Disk.length_of c.args.disk) (g.met.D.Disk.has_length c.args.disk)) c.in-Err-Damaged-default.ensures.refused
    (closed_kept (g.D.Disk.told c.in-Err-Damaged-default.disk) (g.D.Disk.told c.powered-in-Err-Damaged-default.result) run.ended c.powered-in-Err-Damaged-default.ensures.told told)

pub returns-in-Ok-clause-grew : goal.returns-in-Ok-clause-grew
returns-in-Ok-clause-grew g c =
    let state = (λ (l : Log g.row.D.Denot g.D.Disk). log_state (g.D.Disk.content l.disk) (g.D.Disk.told l.disk) (g.D.Disk.power l.disk) (g.D.Disk.faults l.disk) (g.D.Disk.cuts l.disk) l.end l.count l.limit l.failed l.frame.items) in
    grew_as c.begin_on.result (λ b. IsToldBy (sight g.N.Node.seen state g.D.Disk.told g.D.Disk.content g.D.Disk.power) b.0) (λ ended. IfSome (g.D.Disk.told c.in-Ok.log.disk) (λ t. IsKept t ended)) (λ ended. IfSome (g.D.Disk.told c.args.disk) (λ t. IsKept t ended))
    (λ ended kept. opening_stays (g.D.Disk.told c.args.disk) (g.D.Disk.told c.in-Ok.log.disk) ended c.in-Ok.ensures.begins.calls kept) c.begin_on.ensures.grew

pub returns-in-Ok-clause-grew_err : goal.returns-in-Ok-clause-grew_err
returns-in-Ok-clause-grew_err g c =
    grew_err_as c.begin_on.result (λ e ended. IfSome (g.D.Disk.told e.1) (λ t. IsKept t ended)) (λ ended. IfSome (g.D.Disk.told c.in-Ok.log.disk) (λ t. IsKept t ended)) (λ ended. IfSome (g.D.Disk.told c.args.disk) (λ t. IsKept t ended))
    (λ ended kept. opening_stays (g.D.Disk.told c.args.disk) (g.D.Disk.told c.in-Ok.log.disk) ended c.in-Ok.ensures.begins.calls kept) c.begin_on.ensures.grew_err

pub returns-in-Err-NoMemory-default-clause-grew_err : goal.returns-in-Err-NoMemory-default-clause-grew_err
returns-in-Err-NoMemory-default-clause-grew_err g c = λ ended told.
    no_opening_stays c.in-Err-NoMemory-default.field-0-0 _ (g.D.Disk.told c.args.disk) (g.D.Disk.told c.in-Err-NoMemory-default.disk) ended _ _ _ _ _ _ c.in-Err-NoMemory-default.ensures.refused (closed_kept (g.D.Disk.told c.in-Err-NoMemory-default.disk) (g.D.Disk.told c.powered.result) ended c.powered.ensures.told told)

pub returns-in-Err-Failed-default-clause-grew_err : goal.returns-in-Err-Failed-default-clause-grew_err
returns-in-Err-Failed-default-clause-grew_err g c = λ ended told.
    no_opening_stays c.in-Err-Failed-default.field-0-0 _ (g.D.Disk.told c.args.disk) (g.D.Disk.told c.in-Err-Failed-default.disk) ended _ _ _ _ _ _ c.in-Err-Failed-default.ensures.refused (closed_kept (g.D.Disk.told c.in-Err-Failed-default.disk) (g.D.Disk.told c.powered-in-Err-Failed-default.result) ended c.powered-in-Err-Failed-default.ensures.told told)

pub returns-in-Err-Damaged-default-clause-grew_err : goal.returns-in-Err-Damaged-default-clause-grew_err
returns-in-Err-Damaged-default-clause-grew_err g c = λ ended told.
    no_opening_stays c.in-Err-Damaged-default.field-0-0 _ (g.D.Disk.told c.args.disk) (g.D.Disk.told c.in-Err-Damaged-default.disk) ended _ _ _ _ _ _ c.in-Err-Damaged-default.ensures.refused (closed_kept (g.D.Disk.told c.in-Err-Damaged-default.disk) (g.D.Disk.told c.powered-in-Err-Damaged-default.result) ended c.powered-in-Err-Damaged-default.ensures.told told)
