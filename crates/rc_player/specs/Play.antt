-- What the run of a script writes and answers.
use Rattle.std.specs.Prelude.{◌≡◌, ℕ, ◌<◌, ◌≤◌, List, Option, length, take}
use Rattle.std.specs.List.{concat}
use Rattle.rc_ports.specs.declared.status.Status.{Status}
use Rattle.rc_ports.specs.declared.status.Status.TheVariants as statuses
use Rattle.rc_ports.specs.Streams.{grown}
use Rattle.rc_runs.specs.Stored.{in_memory}
use Rattle.rc_runs.specs.Text.{Ending, Done, BadScript, LimitMet, FarmFault, BadLog, played}

abbrev pub status_of : Ending → Status
status_of Done = statuses.Done
status_of BadScript = statuses.BadScript
status_of LimitMet = statuses.Limit
status_of FarmFault = statuses.FarmFault
status_of BadLog = statuses.BadLog

-- the text of a script, over empty disks on which no call fails
abbrev pub text_of : List ℕ → List ℕ
text_of script = concat (played in_memory script).texts

-- the status with which it ends
abbrev pub end_of : List ℕ → Status
end_of script = status_of (played in_memory script).ending

-- the run answers one of these
abbrev pub IsAnswer : Status → Type 0
IsAnswer statuses.Done = Unit {0}
IsAnswer statuses.BadWords = Unit {0}
IsAnswer statuses.BadScript = Unit {0}
IsAnswer statuses.Limit = Unit {0}
IsAnswer statuses.ReadFault = Unit {0}
IsAnswer statuses.WriteFault = Unit {0}
IsAnswer statuses.NoMemory = Unit {0}
IsAnswer _ = ⊥

-- the script was run to its end and its whole text written
abbrev pub IsWhole : Status → Type 0
IsWhole statuses.Done = Unit {0}
IsWhole statuses.BadScript = Unit {0}
IsWhole statuses.Limit = Unit {0}
IsWhole _ = ⊥

-- the sink took the whole text
abbrev pub TookAll : List ℕ → Option (List ℕ) → Option (List ℕ) → Type 0
TookAll text start now = now ≡ grown text start

-- the sink took some first bytes of the text, and not all
abbrev pub TookPart : List ℕ → Option (List ℕ) → Option (List ℕ) → Type 0
TookPart text start now = (n : ℕ) × (n < length text) × (now ≡ grown (take n text) start)

-- the sink took some first bytes of the text, maybe all
abbrev pub TookFront : List ℕ → Option (List ℕ) → Option (List ℕ) → Type 0
TookFront text start now = (n : ℕ) × (n ≤ length text) × (now ≡ grown (take n text) start)
