-- Heads of logs.
use Rattle.std.specs.Prelude.{◌≡◌, ℕ, ◌≤◌, ◌<◌, Bool, ◌&&◌, ◌==◌, nat_eq}
use Rattle.std.specs.Cmp.Lexicographic.{pointwise}
use Rattle.rc_ids.specs.declared.names.NodeId.{NodeId}
use Rattle.rc_ids.specs.Parties.{is_same_node}
use Rattle.rc_ids.specs.Texts.{same_key}
use Rattle.rc_ids.specs.Cluster.{Layout, IsLayout, equal_weights}

-- the format of a log from here on, whose log it is, and the world
pub record LogHead : Type 0 where
  pub format : ℕ
  pub node : NodeId
  pub world : Layout

-- there are three formats; in the first two each datacentre has weight 1
pub record IsHead (h : LogHead) : Type 0 where
  pub known : (1 ≤ h.format) × (h.format ≤ 3)
  pub layout : IsLayout h.world
  pub equal : h.format < 3 → h.world.weights ≡ equal_weights h.world.dcs

-- what new logs begin with, and older ones get
abbrev pub new_head : NodeId → Layout → LogHead
new_head node c = record { format = 3; node = node; world = c }

-- THE WORLD
abbrev pub same_world : Layout → Layout → Bool
same_world c k = (c.dcs == k.dcs) && (c.shards == k.shards) && pointwise same_key c.splits k.splits && pointwise nat_eq c.weights k.weights

-- the head of a log of this node in this world
abbrev pub is_of : NodeId → Layout → LogHead → Bool
is_of node c h = is_same_node h.node node && same_world h.world c
