-- What a party prints: in a run, and by its own entries alone.
use Rattle.std.specs.Prelude.{List, [], ◌∷◌, ◌++◌, Option, if◌then◌else◌}
use Rattle.rc_ids.specs.Parties.{is_same_party}
use Rattle.rc_ids.specs.Tables.{maybe}
use Rattle.rc_ids.specs.Cluster.{Layout}
use Rattle.rc_ids.specs.declared.names.Party.{Party}
use Rattle.rc_net.specs.Network.{Message}
use Rattle.rc_report.specs.declared.line.Line.{Line}
use Rattle.rc_runs.specs.World.{World, actor}
use Rattle.rc_runs.specs.Refusals.{Happening, after_event, lines_at}
use Rattle.rc_wire.specs.declared.turn.Turn.{Turn}
use Rattle.rc_composition.specs.Composed.{Operations, event_of}
use Rattle.rc_composition.specs.Parts.{Part, new_part, part_moved, prints}

-- the lines of a run that this party prints
abbrev pub lines_by : Party → World → List Happening → List Line
lines_by p w [] = []
lines_by p w (h ∷ hs) = (if is_same_party (actor w.sent h.0) p then lines_at w h else []) ++ lines_by p (after_event w h) hs

abbrev pub prints_at : Layout → List Message → Part → Option Happening → List Line
prints_at c sent x h = maybe h [] (prints c sent x)

-- the lines of those of its own entries that stand between these earlier and these later ones
abbrev pub prints_between : Layout → Operations → List Message → Party → Part → List Turn → List Turn → List Turn → List Line
prints_between c ops sent p x earlier [] later = []
prints_between c ops sent p x earlier (t ∷ ts) later =
    prints_at c sent x (event_of ops p earlier t.act (ts ++ later))
    ++ prints_between c ops sent p (part_moved c sent x (event_of ops p earlier t.act (ts ++ later))) (earlier ++ t ∷ []) ts later

-- of its own entries, where these later ones follow
abbrev pub prints_by : Layout → Operations → List Message → Party → List Turn → List Turn → List Line
prints_by c ops sent p mine later = prints_between c ops sent p (new_part c p) [] mine later
