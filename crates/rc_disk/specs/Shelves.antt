-- Where a farm keeps the disk of each node.
use Rattle.std.specs.Prelude.{ℕ, ◌≡◌, ◌+◌, ◌-◌, ◌*◌, ◌&&◌, nat_le, Bool, true, false, if◌then◌else◌, List, Option, None, Some, slice_get, length, slice_index_or, ◌<◌, ◌≤◌}
use Rattle.rc_ids.specs.declared.names.NodeId.{NodeId}
use Rattle.rc_ids.specs.declared.names.NodeId.TheVariants.{Coord, Shard}
use Rattle.rc_disk.specs.declared.power.Power.TheVariants.{On}
use Rattle.rc_disk.specs.Places.{Standing, Start, start_of, standing, IsReady, IsFresh, HasLaterCounts}

-- whether it names a node of seven datacentres of eight shards
abbrev pub is_node : NodeId → Bool
is_node (Coord dc) = nat_le 1 dc && nat_le dc 7
is_node (Shard dc shard) = (nat_le 1 dc && nat_le dc 7) && (nat_le 1 shard && nat_le shard 8)

-- the coordinators come first, then the shard servers of each datacentre in turn
abbrev pub place : NodeId → ℕ
place (Coord dc) = dc - 1
place (Shard dc shard) = 7 + (8 * (dc - 1) + (shard - 1))

abbrev pub slot_at : {S : Type 0} → List S → NodeId → Option S
slot_at slots n = if is_node n then slice_get slots (place n) else None

-- of a slot that is there
abbrev pub on_slot : {S A : Type 0} → A → (S → A) → Option S → A
on_slot nothing f None = nothing
on_slot nothing f (Some s) = f s

abbrev pub no_standing : Standing
no_standing = standing None None On 0 0

abbrev pub stands_in : {S : Type 0} → (S → Standing) → List S → NodeId → Standing
stands_in f slots n = on_slot no_standing f (slot_at slots n)

abbrev pub start_in : {S : Type 0} → (S → Start) → List S → NodeId → Start
start_in f slots n = on_slot (start_of no_standing) f (slot_at slots n)

abbrev pub lent_in : {S : Type 0} → (S → Bool) → List S → NodeId → Bool
lent_in f slots n = on_slot false f (slot_at slots n)

-- what a selection makes of a slot
pub record IsSelected (folder : Bool) (old new : Standing) (start : Start) (lent : Bool) : Type 0 where
  pub is_here : lent ≡ false
  pub started : start ≡ start_of new
  pub ready : IsReady new
  pub empty : folder ≡ false → IsFresh new
  pub counts : HasLaterCounts old new

-- the elements before a place were changed so, the others are as before
pub record Walked {S : Type 0} (R : S → S → Type 0) (first now : List S) (i : ℕ) : Type 0 where
  pub same_length : length now ≡ length first
  pub done : (k : ℕ) (d : S) → k < i → k < length first → R (slice_index_or first k d) (slice_index_or now k d)
  pub rest : (k : ℕ) (d : S) → i ≤ k → slice_index_or now k d ≡ slice_index_or first k d
