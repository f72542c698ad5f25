-- What a party's deed makes of the world: the party is what it is by itself then, and the others are as they were.
use Rattle.std.specs.Prelude.{◌≡◌, List}
use Rattle.rc_ids.specs.Cluster.{Layout}
use Rattle.rc_ids.specs.declared.names.Party.{Party}
use Rattle.rc_net.specs.Network.{Message}
use Rattle.rc_runs.specs.World.{Parties, parties_after}
use Rattle.rc_runs.specs.Refusals.{Happening}
use Rattle.rc_composition.specs.Parts.{part_in, part_after, does}

pub record MovesAlone (w : Parties) (c : Layout) (on_wire : List Message) (p : Party) (h : Happening) : Type 0 where
  pub own : part_in (parties_after w (does c on_wire (part_in w p) h)) p ≡ part_after (part_in w p) (does c on_wire (part_in w p) h)
  pub others : (q : Party) → (p ≡ q → ⊥) → part_in (parties_after w (does c on_wire (part_in w p) h)) q ≡ part_in w q
