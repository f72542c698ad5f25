-- Why no log was read from bytes.
use Rattle.std.specs.Prelude.{ℕ, ◌≡◌, List, Err, ⊤}
use Rattle.rc_log.specs.Records.{records}
use Rattle.rc_log.specs.declared.fault.OpenFault.{OpenFault}
use Rattle.rc_log.specs.declared.fault.OpenFault.TheVariants.{NoMemory, Failed, Damaged}

-- no disk has a say in it, and the place of the damage is told
abbrev pub IsReadFault : List ℕ → OpenFault → Type 0
IsReadFault bytes NoMemory = ⊤
IsReadFault bytes Failed = ⊥
IsReadFault bytes (Damaged place) = records bytes ≡ Err place
