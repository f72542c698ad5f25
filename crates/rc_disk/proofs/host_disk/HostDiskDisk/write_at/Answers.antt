use Rattle.std.proofs.Common.{length, sym, subst}
use Rattle.rc_disk.specs.Crashes.{Stems, Patches}
use Rattle.rc_disk.specs.HostDisks.{may_leave_host}
use Rattle.rc_disk.specs.declared.host_disk.HostDisk.{HostDisk}
use Rattle.rc_disk.specs.declared.host_disk.HostDisk.TheVariants.{Memory}
use Rattle.rc_disk.proofs.host_disk.HostDiskDisk.write_at.Goals as goal

pub returns-in-Memory-clause-crash : goal.returns-in-Memory-clause-crash
returns-in-Memory-clause-crash c =
    subst (λ (d : HostDisk). Stems (Patches c.args.place (length c.args.bytes.now)) (may_leave_host d) (may_leave_host (Memory c.write_at.new.self))) (sym c.in-Memory.is) c.write_at.ensures.crash
