-- The numbers of the statuses.
use Rattle.std.specs.Prelude.{ℕ}
use Rattle.rc_ports.specs.declared.status.Status.{Status}
use Rattle.rc_ports.specs.declared.status.Status.TheVariants.{Done, BadWords, BadScript, Limit, ReadFault, WriteFault, FarmFault, NoMemory, SpawnFault, BadLog, Disagreement}

-- what a program exits with
abbrev pub status_number : Status → ℕ
status_number Done = 0
status_number BadWords = 2
status_number BadScript = 3
status_number Limit = 4
status_number ReadFault = 5
status_number WriteFault = 6
status_number FarmFault = 7
status_number NoMemory = 8
status_number SpawnFault = 9
status_number BadLog = 10
status_number Disagreement = 12
