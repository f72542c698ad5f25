use Rattle.std.proofs.Common.{sym, subst}
use Rattle.rc_disk.specs.Crashes.{Stems, Trims}
use Rattle.rc_disk.specs.HostDisks.{may_leave_host}
use Rattle.rc_disk.specs.declared.host_disk.HostDisk.{HostDisk}
use Rattle.rc_disk.specs.declared.host_disk.HostDisk.TheVariants.{Memory}
use Rattle.rc_disk.proofs.host_disk.HostDiskDisk.cut.Goals as goal

pub returns-in-Memory-clause-crash : goal.returns-in-Memory-clause-crash
returns-in-Memory-clause-crash c =
    subst (λ (d : HostDisk). Stems (Trims c.args.len) (may_leave_host d) (may_leave_host (Memory c.cut.new.self))) (sym c.in-Memory.is) c.cut.ensures.crash
