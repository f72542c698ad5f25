-- A vote enters the order.
use Rattle.std.specs.Prelude.{◌≡◌, ℕ, List, Option, Some, IsTrue, slice_get, slice_set}
use Rattle.rc_ids.specs.Cluster.{Layout, is_dc}
use Rattle.rc_body.specs.declared.entry.Entry.{Entry}
use Rattle.rc_record.specs.declared.record.Record.{Record}
use Rattle.rc_protocol.specs.Nodes.{CoordNode, coord_index, logged}
use Rattle.rc_runs.specs.Votes.{ordered}
use Rattle.rc_order.specs.Orders.{Order}
use Rattle.rc_order.specs.Counts.{IsOrderOf}
use Rattle.rc_world.specs.declared.votes.Vote.{Vote}
use Rattle.rc_world.specs.Votes.{vote_in}

-- where the coordinator of d left this behind its log, or nothing, and that is this vote for commit or none, the order is that of the logs after it
abbrev pub Notes : Order → Order → ℕ → Option Vote → Type 0
Notes old new d vote =
    (c : Layout) (coords : List CoordNode) (earlier committed : List (ℕ × List Entry)) (before after : CoordNode) (left : Option Record)
    → IsOrderOf c coords earlier committed old → IsTrue (is_dc c d) → slice_get coords (coord_index d) ≡ Some before → after.log ≡ logged before.log left → vote ≡ vote_in left
    → IsOrderOf c (slice_set coords (coord_index d) after) earlier (ordered c (slice_set coords (coord_index d) after) earlier committed left) new
