-- Journals whose records give a coordinator's durable state back.
use Rattle.std.specs.Prelude.{◌≡◌, ◌≤◌, ℕ, suc, IsTrue, List, [], ◌∷◌, Option, Some, None, Result, Ok, IfSome}
use Rattle.rc_ids.specs.Cluster.{Layout}
use Rattle.rc_ids.specs.declared.names.NodeId.{NodeId}
use Rattle.rc_log.specs.Journals.{State}
use Rattle.rc_record.specs.CoordState.{CoordDurable, new_durable, coord_applied}
use Rattle.rc_record.specs.Kinds.{is_coord_record}
use Rattle.rc_record.specs.Replay.{on_ok, coord_step, coord_replay}
use Rattle.rc_record.specs.Spelling.{HasRecord}
use Rattle.rc_record.specs.declared.fault.ReplayFault.{ReplayFault}
use Rattle.rc_record.specs.declared.record.Record.{Record}
use Rattle.rc_protocol.specs.Nodes.{applied}
use Rattle.rc_node.specs.Acts.{Logs}

-- the format of the newest head, and the state behind the records from this place on
abbrev pub reached : NodeId → Layout → ℕ → ℕ × CoordDurable → List (List ℕ) → Result (ℕ × CoordDurable) ReplayFault
reached node c place s [] = Ok s
reached node c place s (bytes ∷ log) = on_ok (coord_step node c place s bytes) (λ t. reached node c (suc place) t log)

-- behind these records stands the state, and a format that takes all records of acts
pub record GivesBack (node : NodeId) (c : Layout) (log : List (List ℕ)) (s : CoordDurable) : Type 0 where
  pub format : ℕ
  pub newest : 2 ≤ format
  pub gives : reached node c 0 (0, new_durable) log ≡ Ok (format, s)

-- so does the journal, where its records are told
abbrev pub Keeps : NodeId → Layout → State → CoordDurable → Type 0
Keeps node c journal s = IfSome journal.records (λ log. GivesBack node c log s)

-- the record of an act, if it has one, is a coordinator's and has a spelling
abbrev pub IsLogged : Option Record → Type 0
IsLogged None = Unit {0}
IsLogged (Some r) = IsTrue (is_coord_record r) × HasRecord r

pub record ReplayLaws (node : NodeId) (c : Layout) : Type 0 where
  -- a replay of such records gives the state
  pub replays : (log : List (List ℕ)) (s : CoordDurable) → GivesBack node c log s → coord_replay node c log ≡ Ok s
  -- and a journal that gives the state back still does after an act
  pub goes_on : (old new : State) (s : CoordDurable) (logs : Option Record) → Logs old new logs → IsLogged logs → Keeps node c old s
      → Keeps node c new (applied coord_applied s logs)
