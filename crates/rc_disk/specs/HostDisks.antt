-- A disk in memory, or a file that tells nothing.
use Rattle.std.specs.Prelude.{ℕ, ◌≡◌, ◌≤◌, List, length, Option, None, Some, IfSome, refl}
use Rattle.std.proofs.Common.{inl, inr}
use Rattle.rc_disk.specs.Calls.{Told, read_bytes}
use Rattle.rc_disk.specs.Memory.{images_of, history_of}
use Rattle.rc_disk.specs.MemDisks.{told_of, content_of, power_of, faults_of, cuts_of}
use Rattle.rc_disk.specs.declared.power.Power.{Power}
use Rattle.rc_disk.specs.Past.{IsOne, LeftSince, one_now, one_only}
use Rattle.rc_disk.specs.declared.host_disk.HostDisk.{HostDisk}
use Rattle.rc_disk.specs.declared.host_disk.HostDisk.TheVariants.{Memory, File}

abbrev pub told_host : HostDisk → Option Told
told_host (Memory d) = Some (told_of d)
told_host (File f) = None

abbrev pub content_host : HostDisk → Option (List ℕ)
content_host (Memory d) = Some (content_of d)
content_host (File f) = None

abbrev pub may_leave_host : HostDisk → List ℕ → Type 0
may_leave_host (Memory d) left = IsOne (images_of d.images) left
may_leave_host (File f) left = ⊥

abbrev pub moment_host : HostDisk → ℕ
moment_host (Memory d) = length d.past.events.items
moment_host (File f) = 0

abbrev pub left_since_host : HostDisk → ℕ → List ℕ → Type 0
left_since_host (Memory d) t left = LeftSince (history_of d.past) t left
left_since_host (File f) t left = ⊥

abbrev pub power_host : HostDisk → Power
power_host (Memory d) = power_of d
power_host (File f) = f.state.power

abbrev pub faults_host : HostDisk → ℕ
faults_host (Memory d) = faults_of d
faults_host (File f) = f.state.faults

abbrev pub cuts_host : HostDisk → ℕ
cuts_host (Memory d) = cuts_of d
cuts_host (File f) = f.state.cuts

abbrev pub spare_calls_host : HostDisk → ℕ
spare_calls_host (Memory d) = d.calls.spare
spare_calls_host (File f) = f.spare_calls

abbrev pub spare_bytes_host : HostDisk → ℕ
spare_bytes_host (Memory d) = d.spare
spare_bytes_host (File f) = f.spare_bytes

abbrev pub length_host : HostDisk → ℕ
length_host (Memory d) = length (content_of d)
length_host (File f) = f.len

pub told_content_host : (d : HostDisk) → IfSome (told_host d) (λ t. content_host d ≡ Some (read_bytes t))
told_content_host (Memory d) = refl
told_content_host (File f) = tt

pub told_power_host : (d : HostDisk) → IfSome (told_host d) (λ t. t.power ≡ power_host d)
told_power_host (Memory d) = refl
told_power_host (File f) = tt

pub may_stay_host : (d : HostDisk) → IfSome (content_host d) (may_leave_host d)
may_stay_host (Memory d) = inr (inl refl)
may_stay_host (File f) = tt

pub has_length_host : (d : HostDisk) → IfSome (content_host d) (λ c. length_host d ≡ length c)
has_length_host (Memory d) = refl
has_length_host (File f) = tt

pub now_too_host : (d : HostDisk) (t : ℕ) (left : List ℕ) → t ≤ moment_host d → may_leave_host d left → left_since_host d t left
now_too_host (Memory d) t left earlier one = one_now (history_of d.past) (images_of d.images) d.kept t left earlier one
now_too_host (File f) t left earlier none = none

pub no_other_host : (d : HostDisk) (left : List ℕ) → left_since_host d (moment_host d) left → may_leave_host d left
no_other_host (Memory d) left since = one_only (history_of d.past) (images_of d.images) d.kept left since
no_other_host (File f) left none = none
