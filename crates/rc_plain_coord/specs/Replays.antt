-- What a coordinator keeps of its log's replay.
use Rattle.std.specs.Prelude.{◌≡◌, List, Option, None, Some}
use Rattle.rc_record.specs.declared.record.Record.{Record}
use Rattle.rc_record.specs.declared.coord.CoordDurable.{CoordDurable}
use Rattle.rc_record.specs.CoordState.{new_durable}
use Rattle.rc_protocol.specs.Nodes.{coord_replayed}

-- what is kept, if anything, is what the log gives back
abbrev pub IsReplay : Option CoordDurable → List Record → Type 0
IsReplay None log = Unit {0}
IsReplay (Some durable) log = durable ≡ coord_replayed new_durable log
