-- The rows of messages where they are chosen.
use Rattle.std.proofs.Common.{◌≡◌, ℕ, Bool, true, sym, ap, ◌∙◌}
use Rattle.std.specs.Prelude.{if◌then◌else◌}
use Rattle.rc_ids.specs.Cluster.{Layout, is_dc}
use Rattle.rc_ids.specs.declared.names.Party.{Party}
use Rattle.rc_body.specs.declared.decision.Decision.{Decision}
use Rattle.rc_msg.specs.declared.msg.Msg.{Msg}
use Rattle.rc_msg.specs.declared.msg.Msg.TheVariants.{Voted}
use Rattle.rc_protocol.specs.Coordinator.{CoordDurable, CoordVolatile, CoordAct, on_voted, coord_row, coord_stays}

-- the row of a vote of a datacentre of the cluster
pub voted-row : (c : Layout) (d : ℕ) (s : CoordDurable) (v : CoordVolatile) (from : Party) (m : Msg) (t b e : ℕ) (o : Decision) → m ≡ Voted t b e o → is_dc c e ≡ true
    → on_voted c d s v t b e o ≡ coord_row c d s v from m
voted-row c d s v from m t b e o is within =
    sym (ap (coord_row c d s v from) is ∙ ap (λ (x : Bool). let act : CoordAct = if x then on_voted c d s v t b e o else coord_stays v in act) within)
