-- What the host's farm keeps for a node.
use Rattle.std.specs.Prelude.{Bool, true, false, None}
use Rattle.rc_disk.specs.Places.{Standing, Start, standing}
use Rattle.rc_disk.specs.Shelves.{no_standing}
use Rattle.rc_disk.specs.MemDisks.{standing_of, start_marked}
use Rattle.rc_disk.specs.HostDisks.{told_host, content_host, power_host, faults_host, cuts_host}
use Rattle.rc_disk.specs.declared.host_disk.HostDisk.{HostDisk}
use Rattle.rc_disk.specs.declared.host_slot.HostPlace.{HostPlace}
use Rattle.rc_disk.specs.declared.host_slot.HostPlace.TheVariants.{Memory, Counted, Lent}
use Rattle.rc_disk.specs.declared.host_slot.HostSlot.{HostSlot}

abbrev pub place_standing : HostPlace → Standing
place_standing (Memory d) = standing_of d
place_standing (Counted state) = standing None None state.power state.faults state.cuts
place_standing Lent = no_standing

abbrev pub place_is_lent : HostPlace → Bool
place_is_lent (Memory d) = false
place_is_lent (Counted state) = false
place_is_lent Lent = true

abbrev pub slot_standing : HostSlot → Standing
slot_standing s = place_standing s.here

abbrev pub slot_start : HostSlot → Start
slot_start s = start_marked s.marks

abbrev pub slot_is_lent : HostSlot → Bool
slot_is_lent s = place_is_lent s.here

abbrev pub standing_host : HostDisk → Standing
standing_host d = standing (told_host d) (content_host d) (power_host d) (faults_host d) (cuts_host d)

abbrev pub is_counted : HostPlace → Bool
is_counted (Memory d) = false
is_counted (Counted state) = true
is_counted Lent = false
