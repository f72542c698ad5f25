-- Whether two nodes, or two parties, are one.
use Rattle.std.specs.Prelude.{◌==◌, Bool, false, ◌&&◌}
use Rattle.rc_ids.specs.declared.names.NodeId.{NodeId}
use Rattle.rc_ids.specs.declared.names.NodeId.TheVariants.{Coord, Shard}
use Rattle.rc_ids.specs.declared.names.Party.{Party}
use Rattle.rc_ids.specs.declared.names.Party.TheVariants.{Node, Client}

abbrev pub is_same_node : NodeId → NodeId → Bool
is_same_node (Coord d) (Coord e) = d == e
is_same_node (Coord d) (Shard e t) = false
is_same_node (Shard d s) (Coord e) = false
is_same_node (Shard d s) (Shard e t) = (d == e) && (s == t)

abbrev pub is_same_party : Party → Party → Bool
is_same_party (Node node) (Node other) = is_same_node node other
is_same_party (Node node) (Client t) = false
is_same_party (Client t) (Node node) = false
is_same_party (Client t) (Client u) = t == u
