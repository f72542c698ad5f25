-- The faults of a disk that tells nothing but how many there were.
use Rattle.std.specs.Prelude.{◌≡◌, ℕ, suc, ◌≤◌, false, List, [], ◌∷◌, IsTrue}
use Rattle.rc_ids.specs.declared.names.NodeId.{NodeId}
use Rattle.rc_ports.specs.Causes.{Rose, AtLeast}
use Rattle.rc_runs.specs.World.{World, Stops}
use Rattle.rc_runs.specs.Refusals.{Happening, is_event, after_event}
use Rattle.rc_causes.specs.Stops.{AppendStopped}

-- how the count of a node's disk goes through these happenings, and how many appends of the node failed in them: the count never falls, and
-- rises where an append fails. One without room makes no call of the disk
pub data Counts (node : NodeId) : World → List Happening → ℕ → ℕ → ℕ → Type 0 where
  Ends : (w : World) (count : ℕ) → Counts node w [] 0 count count
  Fails : (w : World) (h : Happening) (later : List Happening) (failed before between now : ℕ) → IsTrue (is_event w h) → AppendStopped w h node → Rose before between
      → Counts node (after_event w h) later failed between now → Counts node w (h ∷ later) (suc failed) before now
  FindsNoRoom : (w : World) (h : Happening) (later : List Happening) (failed before between now : ℕ) → IsTrue (is_event w h) → AppendStopped w h node → h.1 ≡ Stops false → before ≤ between
      → Counts node (after_event w h) later failed between now → Counts node w (h ∷ later) failed before now
  Goes : (w : World) (h : Happening) (later : List Happening) (failed before between now : ℕ) → (IsTrue (is_event w h) → AppendStopped w h node → ⊥) → before ≤ between
      → Counts node (after_event w h) later failed between now → Counts node w (h ∷ later) failed before now

-- no more appends failed than the count rose by, unless it stands at its last value. Which appends failed is not said, nor that each fault is
-- one of an append
abbrev pub FaultsAreCounted : NodeId → World → List Happening → Type 0
FaultsAreCounted node w hs = (failed before now : ℕ) → Counts node w hs failed before now → AtLeast before failed now
