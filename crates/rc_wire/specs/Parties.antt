-- Parties of the wire.
use Rattle.std.specs.Prelude.{Bool, true, false, ◌&&◌, not, List, [], ◌∷◌}
use Rattle.std.specs.List.{list_any}
use Rattle.rc_ids.specs.Parties.{is_same_party}
use Rattle.rc_ids.specs.declared.names.Party.{Party}
use Rattle.rc_ids.specs.declared.names.Party.TheVariants.{Node, Client}

abbrev pub is_client : Party → Bool
is_client (Node node) = false
is_client (Client tx) = true

-- the parties differ
abbrev pub all_differ : List Party → Bool
all_differ [] = true
all_differ (p ∷ ps) = not (list_any (is_same_party p) ps) && all_differ ps
