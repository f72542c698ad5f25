-- Appends on a disk, as a node meets them.
use Rattle.std.specs.Prelude.{◌≡◌, ℕ, ◌+◌, ◌-◌, true, ◌&&◌, nat_le, Option, Some, None, if◌then◌else◌}
use Rattle.std.specs.Option.{option_map}
use Rattle.rc_runs.specs.World.{Course as ProtocolCourse, Goes as ProtocolGoes, Stops as ProtocolStops}
use Rattle.rc_runs.specs.Devices.{Device, Fate, course_of}
use Rattle.rc_runs.specs.Session.{after_append}
use Rattle.rc_plain_world.specs.declared.disk.Course.{Course}
use Rattle.rc_plain_world.specs.declared.disk.Course.TheVariants.{Goes, Stops}

abbrev pub protocol_course : Course → ProtocolCourse
protocol_course Goes = ProtocolGoes
protocol_course (Stops kept) = ProtocolStops kept

-- how the append went, and the disk after it
pub record Appended (course : Course) (done : Fate × Device) (old new : Device) : Type 0 where
  pub went : protocol_course course ≡ course_of done.0
  pub after : after_append done.0 done.1 ≡ Some new
  pub stays_open : old.is_open ≡ true → new.is_open ≡ true

-- the call of an append at which an armed cut falls, with its pick
abbrev pub falling : Option (ℕ × ℕ) → Option (ℕ × ℕ)
falling None = None
falling (Some cut) = if nat_le 1 cut.0 && nat_le cut.0 4 then Some cut else None

-- a cut that did not fall in an append, after it
abbrev pub nearer_by_append : Option (ℕ × ℕ) → Option (ℕ × ℕ)
nearer_by_append cut = option_map (λ (c : ℕ × ℕ). (c.0 - 4, c.1)) cut

-- the disk on which the log was opened again after so many calls, with the gate at this place
abbrev pub reopened : Device → ℕ → ℕ → Device
reopened d calls place = record d { offset = place; calls = d.calls + calls + 1; reads = d.reads + 1; cut = None; is_open = true }
