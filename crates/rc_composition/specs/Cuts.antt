-- Where a history is cut: its events are those before the cut and then those behind it, and so are the steps of a party.
use Rattle.std.specs.Prelude.{◌≡◌, List, [], ◌++◌}
use Rattle.rc_ids.specs.Cluster.{Layout}
use Rattle.rc_ids.specs.declared.names.Party.{Party}
use Rattle.rc_net.specs.Network.{Message}
use Rattle.rc_wire.specs.declared.turn.Turn.{Turn}
use Rattle.rc_composition.specs.Composed.{Operations, events_between, composed_before, composed}
use Rattle.rc_composition.specs.Parts.{part_between, part_by}

-- the composed history begins with the events of the front
abbrev pub EventsAreCut : Operations → List Party → List Turn → List Turn → Type 0
EventsAreCut ops parties front later = composed ops parties (front ++ later) ≡ composed_before ops parties front later ++ events_between ops front later []

-- a party goes on from what it is after the first of its own entries
abbrev pub PartsAreCut : Layout → Operations → List Message → Party → List Turn → List Turn → List Turn → Type 0
PartsAreCut c ops sent p mine more later =
    part_by c ops sent p (mine ++ more) later ≡ part_between c ops sent p (part_by c ops sent p mine (more ++ later)) mine more later
