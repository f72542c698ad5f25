use Rattle.std.proofs.Common.{ap, ◌∙◌, option_map}
use Rattle.rc_disk.specs.Calls.{powered as powered_disk}
use Rattle.rc_host.proofs.Growing.{told_stays, refusal_stays}
use Rattle.rc_host.proofs.OpenFacts.{open_again, stays_shut}
use Rattle.rc_host.proofs.host.open_at_once.Goals as goal

pub returns-in-Ok-clause-ok : goal.returns-in-Ok-clause-ok
returns-in-Ok-clause-ok g c = λ run blobs d stops kept.
    open_again run _ blobs d stops (g.D.Disk.told c.power_on.new.self) (g.D.Disk.content c.power_on.new.self) (c.power_on.ensures.told ∙ ap (λ disk. option_map powered_disk (g.D.Disk.told disk)) c.into_disk-disk.ensures) _ c.in-Ok.records c.count-count.result c.len.result (g.D.Disk.power c.power_on.new.self) c.count-count.ensures c.len.ensures c.power_on.ensures.power
    (g.met.D.Disk.told_content c.power_on.new.self) c.in-Ok.ensures.records c.in-Ok.ensures.begins kept

pub returns-in-Ok-clause-grew : goal.returns-in-Ok-clause-grew
returns-in-Ok-clause-grew g c = λ ended kept.
    told_stays (g.D.Disk.told c.args.log.disk) (g.D.Disk.told c.power_on.new.self) (g.D.Disk.told c.in-Ok.opened.disk) ended (c.power_on.ensures.told ∙ ap (λ disk. option_map powered_disk (g.D.Disk.told disk)) c.into_disk-disk.ensures) c.in-Ok.ensures.begins.calls kept

pub returns-in-Err-NoMemory-default-clause-grew : goal.returns-in-Err-NoMemory-default-clause-grew
returns-in-Err-NoMemory-default-clause-grew g c = λ ended kept.
    refusal_stays _ _ (g.D.Disk.told c.args.log.disk) (g.D.Disk.told c.power_on.new.self) (g.D.Disk.told c.in-Err-NoMemory-default.disk) ended _ _ _ _ _ _ (c.power_on.ensures.told ∙ ap (λ disk. option_map powered_disk (g.D.Disk.told disk)) c.into_disk-disk.ensures) c.in-Err-NoMemory-default.ensures.refused kept

pub returns-in-Err-Failed-default-clause-err : goal.returns-in-Err-Failed-default-clause-err
returns-in-Err-Failed-default-clause-err g c = λ run blobs d stops kept.
    stays_shut run _ blobs d stops (g.D.Disk.told c.power_on.new.self) (g.D.Disk.content c.power_on.new.self) (c.power_on.ensures.told ∙ ap (λ disk. option_map powered_disk (g.D.Disk.told disk)) c.into_disk-disk.ensures) _ _ (g.D.Disk.told c.in-Err-Failed-default.disk) _ _ _ _ _ _ c.in-Err-Failed-default.field-0-0-is c.power_on.ensures.power
    c.in-Err-Failed-default.ensures.refused kept

pub returns-in-Err-Failed-default-clause-grew : goal.returns-in-Err-Failed-default-clause-grew
returns-in-Err-Failed-default-clause-grew g c = λ ended kept.
    refusal_stays _ _ (g.D.Disk.told c.args.log.disk) (g.D.Disk.told c.power_on.new.self) (g.D.Disk.told c.in-Err-Failed-default.disk) ended _ _ _ _ _ _ (c.power_on.ensures.told ∙ ap (λ disk. option_map powered_disk (g.D.Disk.told disk)) c.into_disk-disk.ensures) c.in-Err-Failed-default.ensures.refused kept

pub returns-in-Err-Damaged-default-clause-grew : goal.returns-in-Err-Damaged-default-clause-grew
returns-in-Err-Damaged-default-clause-grew g c = λ ended kept.
    refusal_stays _ _ (g.D.Disk.told c.args.log.disk) (g.D.Disk.told c.power_on.new.self) (g.D.Disk.told c.in-Err-Damaged-default.disk) ended _ _ _ _ _ _ (c.power_on.ensures.told ∙ ap (λ disk. option_map powered_disk (g.D.Disk.told disk)) c.into_disk-disk.ensures) c.in-Err-Damaged-default.ensures.refused kept
