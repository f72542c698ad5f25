-- What a call does to what a crash may leave.
use Rattle.std.specs.Prelude.{ℕ, List, length}
use Rattle.rc_disk.specs.Calls.{Call, Writes, Shortens, Syncs}
use Rattle.rc_disk.specs.Crashes.{Stems, Patches, Trims, AddsNone}

abbrev pub Steps : Call → (List ℕ → Type 0) → (List ℕ → Type 0) → Type 0
Steps (Writes place bytes) before now = Stems (Patches place (length bytes)) before now
Steps (Shortens len) before now = Stems (Trims len) before now
Steps Syncs before now = AddsNone before now
