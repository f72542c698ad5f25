-- Why a node is said to have stopped.
use Rattle.std.specs.Prelude.{◌≡◌, Bool, Option, Some, None, ◌⊎◌}
use Rattle.rc_ids.specs.Tables.{maybe}
use Rattle.rc_ids.specs.declared.names.NodeId.{NodeId}
use Rattle.rc_ids.specs.declared.names.NodeId.TheVariants.{Coord, Shard as ShardServer}
use Rattle.rc_record.specs.declared.record.Record.{Record}
use Rattle.rc_report.specs.declared.line.Line.TheVariants.{Stopped}
use Rattle.rc_runs.specs.declared.event.Event.TheVariants.{Crash}
use Rattle.rc_runs.specs.World.{World, Deed, ByCoord, ByShard, CoordStops, ShardStops, Stops, kept_record, deed, course_deed}
use Rattle.rc_runs.specs.Refusals.{Happening}
use Rattle.rc_causes.specs.Moments.{PrintsNow}

-- the node that makes a record in the deed, with the record
abbrev pub made_in : Deed → Option (NodeId × Record)
made_in (ByCoord d x act) = maybe act.logs None (λ r. Some (Coord d, r))
made_in (ByShard d s x act) = maybe act.logs None (λ r. Some (ShardServer d s, r))
made_in _ = None

-- the node that stops in the deed, with what more its log has
abbrev pub stopped_in : Deed → Option (NodeId × Option Record)
stopped_in (CoordStops d x kept) = Some (Coord d, kept)
stopped_in (ShardStops d s x kept) = Some (ShardServer d s, kept)
stopped_in _ = None

-- the event made a record at the node, and the append stopped: the log keeps the record or not, as the append left it
pub record AppendStopped (w : World) (h : Happening) (node : NodeId) : Type 0 where
  pub made : Record
  pub kept : Bool
  pub makes : made_in (deed w.parties w.sent h.0) ≡ Some (node, made)
  pub course : h.1 ≡ Stops kept
  pub left : stopped_in (course_deed w h.0 h.1) ≡ Some (node, kept_record kept made)

-- a node is said to have stopped only where it is crashed, or where an append of its own stopped. Why an append stops is the disk's to say
abbrev pub StopsHaveCauses : World → Happening → Type 0
StopsHaveCauses w h = (node : NodeId) → PrintsNow w h (Stopped node) → (h.0 ≡ Crash node) ⊎ AppendStopped w h node
