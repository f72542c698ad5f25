-- What a farm in memory keeps for a node.
use Rattle.std.specs.Prelude.{◌≡◌, ◌≢◌, Bool, true, false, if◌then◌else◌, [], Option, None, Some, is_none}
use Rattle.rc_ports.specs.Causes.{raised, is_listed}
use Rattle.rc_ids.specs.declared.names.NodeId.{NodeId}
use Rattle.rc_disk.specs.Places.{Standing, Start, standing, start_of, renewed}
use Rattle.rc_disk.specs.declared.power.Power.TheVariants.{On}
use Rattle.rc_disk.specs.Shelves.{no_standing, stands_in, start_in, lent_in, is_node, IsSelected}
use Rattle.rc_disk.specs.MemDisks.{standing_of, start_marked, told_first}
use Rattle.rc_disk.specs.declared.mem_disk.MemDisk.{MemDisk}
use Rattle.rc_disk.specs.declared.mem_slot.MemSlot.{MemSlot}
use Rattle.rc_disk.specs.declared.mem_farm.MemFarm.{MemFarm}

abbrev pub standing_here : Option MemDisk → Standing
standing_here None = no_standing
standing_here (Some d) = standing_of d

abbrev pub slot_standing : MemSlot → Standing
slot_standing s = standing_here s.here

abbrev pub slot_start : MemSlot → Start
slot_start s = start_marked s.marks

abbrev pub slot_is_lent : MemSlot → Bool
slot_is_lent s = is_none s.here

-- the folder's disk of a slot: it is put aside while no folder is selected
abbrev pub folder_standing : Option MemDisk → Option MemDisk → Standing
folder_standing None here = standing_here here
folder_standing (Some d) here = standing_of d

abbrev pub slot_folder : MemSlot → Standing
slot_folder s = folder_standing s.aside s.here

abbrev pub slot_in_folder : MemSlot → Bool
slot_in_folder s = is_none s.aside

-- with this disk as the folder's
abbrev pub given_by : Option MemDisk → MemDisk → MemSlot → MemSlot
given_by None disk s = record s { here = Some disk }
given_by (Some d) disk s = record s { aside = Some disk }

abbrev pub given : MemDisk → MemSlot → MemSlot
given disk s = given_by s.aside disk s

-- the disk of a folder where none was put aside is the one that is selected
abbrev pub folder_disk : Option MemDisk → MemDisk → MemDisk
folder_disk None here = here
folder_disk (Some d) here = d

-- an empty disk of which no call was made
abbrev pub fresh : Standing
fresh = standing (Some (told_first [])) (Some []) On 0 0

-- a slot of empty disks, as though it was just selected of no folder
pub record IsFirst (s : MemSlot) : Type 0 where
  pub stands : slot_standing s ≡ fresh
  pub is_here : slot_is_lent s ≡ false
  pub start : slot_start s ≡ start_of (slot_standing s)
  pub of_folder : slot_folder s ≡ fresh
  pub in_folder : slot_in_folder s ≡ false

-- the disk that is selected next: the folder's, or an empty one
abbrev pub next_standing : Bool → Standing → Standing
next_standing folder s = if folder then s else fresh

-- what a selection makes of a slot whose disk is not lent
pub record Selects (folder : Bool) (old new : MemSlot) : Type 0 where
  pub as_any : IsSelected folder (slot_standing old) (slot_standing new) (slot_start new) (slot_is_lent new)
  pub stands : slot_standing new ≡ renewed (slot_standing old).faults (slot_standing old).cuts (next_standing folder (slot_folder old))
  pub of_folder : slot_folder new ≡ (if folder then slot_standing new else slot_folder old)
  pub in_folder : slot_in_folder new ≡ folder

abbrev pub mem_stands : MemFarm → NodeId → Standing
mem_stands f n = stands_in slot_standing f.slots.items n

abbrev pub mem_start : MemFarm → NodeId → Start
mem_start f n = start_in slot_start f.slots.items n

abbrev pub mem_is_lent : MemFarm → NodeId → Bool
mem_is_lent f n = lent_in slot_is_lent f.slots.items n

-- the folder's disk of each node, as it stands
abbrev pub mem_folder : MemFarm → NodeId → Standing
mem_folder f n = stands_in slot_folder f.slots.items n

-- the folder is selected, of a node of the farm
abbrev pub mem_in_folder : MemFarm → NodeId → Bool
mem_in_folder f n = lent_in slot_in_folder f.slots.items n

-- What stands after a selection: of the folder its disk, of none an empty one, with the counts of the disk before
-- where those are higher. The folder keeps its disks.
pub record SelectsEach (folder : Bool) (old new : MemFarm) (n : NodeId) : Type 0 where
  pub stands : is_node n ≡ true → mem_stands new n ≡ renewed (mem_stands old n).faults (mem_stands old n).cuts (next_standing folder (mem_folder old n))
  pub of_folder : mem_folder new n ≡ (if folder then mem_stands new n else mem_folder old n)
  pub in_folder : is_node n ≡ true → mem_in_folder new n ≡ folder

-- What stands after the folder was given a disk.
pub record GivesFolder (disk : Standing) (old new : MemFarm) (node : NodeId) : Type 0 where
  pub of_folder : mem_folder new node ≡ disk
  pub stands : mem_stands new node ≡ (if mem_in_folder old node then disk else mem_stands old node)
  pub others : (n : NodeId) → n ≢ node → mem_folder new n ≡ mem_folder old n
  pub in_folder : (n : NodeId) → mem_in_folder new n ≡ mem_in_folder old n
  pub start : (n : NodeId) → mem_start new n ≡ mem_start old n

-- The folder keeps its disks where one is lent or put back. If it is selected, that one is among them.
pub record KeepsFolder (disk : Option MemDisk) (old new : MemFarm) (node : NodeId) : Type 0 where
  pub of_folder : mem_folder new node ≡ (if mem_in_folder old node then standing_here disk else mem_folder old node)
  pub others : (n : NodeId) → n ≢ node → mem_folder new n ≡ mem_folder old n
  pub in_folder : (n : NodeId) → mem_in_folder new n ≡ mem_in_folder old n

-- a call that failed changed the counts alone
pub record Refuses (old new : MemFarm) : Type 0 where
  pub same_slots : new.slots ≡ old.slots
  pub one_fault : new.faults ≡ raised old.faults

-- the next call of select or disk fails: its number is in the list
abbrev pub next_fails : MemFarm → Bool
next_fails f = is_listed f.fails.items (raised f.calls)

-- one more such call was made
pub record CountsCall (old new : MemFarm) : Type 0 where
  pub calls : new.calls ≡ raised old.calls
  pub list : new.fails.items ≡ old.fails.items

-- none was made
pub record CountsNone (old new : MemFarm) : Type 0 where
  pub calls : new.calls ≡ old.calls
  pub list : new.fails.items ≡ old.fails.items
