-- What stands at the edges of the definitions, computed: names outside the world, messages of others, acts that are worn out, names that no
-- log has, orders that name a transaction twice, summaries.
use Rattle.std.specs.Prelude.{◌≡◌, ℕ, List, [], ◌∷◌, ◌++◌, codes, Bool, true, false, Option, None, Some, Result, Ok, Err}
use Rattle.std.specs.List.{flat_map}
use Rattle.rc_ids.specs.declared.names.NodeId.TheVariants.{Coord}
use Rattle.rc_body.specs.declared.decision.Decision.TheVariants.{Abort}
use Rattle.rc_msg.specs.declared.msg.Msg.TheVariants.{Decided}
use Rattle.rc_report.specs.declared.fault.Which.TheVariants.{Log}
use Rattle.rc_report.specs.declared.line.Line.TheVariants.{Limit}
use Rattle.rc_report.specs.Lines.{line_text}
use Rattle.rc_script.specs.Reading.{script_of}
use Rattle.rc_script.specs.declared.script.NumberedCommand.{NumberedCommand}
use Rattle.rc_script.specs.declared.fault.ScriptFault.{ScriptFault}
use Rattle.rc_protocol.specs.Client.{Done, NotOpen, new_client, in_phase, client_stays, client_row}
use Rattle.rc_protocol.specs.Acts.{Reads, client_act}
use Rattle.rc_protocol.specs.Coordinator.{opening, hears, proposed}
use Rattle.rc_runs.specs.declared.event.Event.TheVariants.{Take}
use Rattle.rc_runs.specs.World.{World, Goes, new_world, coord_at, shard_at}
use Rattle.rc_runs.specs.Refusals.{run, lines}
use Rattle.rc_runs.specs.Session.{Session, Halt}
use Rattle.rc_runs.specs.Stored.{Place, in_memory, new_session}
use Rattle.rc_runs.specs.Text.{trace, layout_of}
use Rattle.rc_runs.specs.Farms.{numbers_since}
use Rattle.rc_runs.specs.Reports.{summary}
use Rattle.rc_claims.specs.Outcomes.{is_named, EachOnce, AreNew}
use Rattle.rc_claims.specs.Calm.{calm_start}
use Rattle.rc_claims.specs.CalmScripts.{names_rightly_from}
use Rattle.rc_protocol_rows.specs.Cases.{Case, ended, three_dcs}
use Rattle.rc_protocol_rows.specs.Stored.{runs_on, gives, over, last_ballot}

-- WORLDS after a script of three datacentres of one shard each, without its first line
abbrev pub session_of : Result Session Halt → Session
session_of (Ok z) = z
session_of (Err halt) = record { world = new_world three_dcs; coords = []; shards = []; text = 0 }

abbrev pub commands_of : Result (List NumberedCommand) ScriptFault → List NumberedCommand
commands_of (Ok (world ∷ cs)) = cs
commands_of _ = []

abbrev pub begins_in : Place → Session
begins_in p = session_of (new_session p three_dcs)

abbrev pub world_after : List (List ℕ) → World
world_after script = (runs_on (begins_in in_memory) (commands_of (script_of (ended script)))).world

-- nobody outside the world acts
pub record NobodyOutside : Type 0 where
  pub coord : coord_at (new_world three_dcs).parties 0 ≡ None
  pub shard : shard_at (new_world three_dcs).parties 0 1 ≡ None

-- a client ignores what is told of another transaction, and refuses a read when it is done
pub record ClientsKeepTheirOwn : Type 0 where
  pub ignored : client_row three_dcs 1 new_client (Decided 2 Abort) ≡ client_stays new_client
  pub refused : (client_act three_dcs 1 (in_phase new_client Done) (Reads (codes "x"))).refused ≡ Some NotOpen

-- a take-over that proposed keeps no report
abbrev pub ReportsGo : Type 0
ReportsGo = (proposed (hears (opening 4 true) 1 (Some (1, Abort)))).best ≡ None

-- a take-over for which no ballot is left is no event: the run counts none
abbrev pub WornOutIsNoEvent : Type 0
WornOutIsNoEvent = (run (begins_in last_ballot).world ((Take 2 5, Goes) ∷ [])).events ≡ 0

-- a read leaves no record, so its transaction is not named, and its name may begin again
abbrev pub reading : List (List ℕ)
reading = codes "world 3 1" ∷ codes "begin t1" ∷ codes "read t1 x" ∷ codes "settle" ∷ []

pub record ReadsAreNotNamed : Type 0 where
  pub unnamed : is_named (world_after reading).parties 1 ≡ false
  pub fresh : is_named (world_after (codes "world 3 1" ∷ codes "begin t1" ∷ codes "commit t1" ∷ codes "settle" ∷ [])).parties 1 ≡ true

abbrev pub begun_again : Case
begun_again = gives reading (codes "t1 read x 0 -" ∷ codes "settled 7" ∷ [])

-- an order that names a transaction twice, or one that the logs chose before, is none
pub record OrdersDiffer : Type 0 where
  pub once : EachOnce ((1, []) ∷ (1, []) ∷ []) → (true ≡ false)
  pub new : AreNew ((1, []) ∷ []) ((1, []) ∷ []) → (true ≡ false)

-- the limit of a log names its node and no line
abbrev pub LogsAreNamed : Type 0
LogsAreNamed = line_text (Limit 3 (Log (Coord 1))) ≡ ended (codes "d1: limit of log" ∷ [])

-- the trace of a script is a run that prints what its lines print, but for their own
abbrev pub TextIsTraced : Type 0
TextIsTraced =
    flat_map line_text (lines (begins_in in_memory).world (trace (begins_in in_memory) (commands_of (script_of (ended reading)))))
    ≡ ended (codes "t1 read x 0 -" ∷ [])

-- calls are counted from the start
abbrev pub CallsAreCounted : Type 0
CallsAreCounted = numbers_since 6 (5 ∷ 7 ∷ 9 ∷ []) ≡ 1 ∷ 3 ∷ []

-- the summary of a generated script: a read of one shard and a write of the other make 7 deliveries each, and the commit 33
abbrev pub generated : List NumberedCommand
generated =
    commands_of (script_of (ended (
    codes "world 3 2" ∷ codes "split k5" ∷ codes "begin t1" ∷ codes "read t1 k4" ∷ codes "settle" ∷ codes "write t1 k6 v1" ∷ codes "commit t1"
    ∷ codes "settle" ∷ [])))

abbrev pub SummaryIs : Type 0
SummaryIs =
    flat_map line_text (summary 1 (runs_on (session_of (new_session in_memory (layout_of 3 2 None generated))) generated).world)
    ≡ ended (codes "transactions 1" ∷ codes "committed 1" ∷ codes "aborted 0" ∷ codes "deliveries 47" ∷ [])

-- a second begin of a transaction is named wrongly
abbrev pub NamesAreTested : Type 0
NamesAreTested = names_rightly_from three_dcs [] true calm_start (commands_of (script_of (ended (codes "world 3 1" ∷ codes "begin t1" ∷ codes "commit t1" ∷ codes "settle" ∷ codes "begin t1" ∷ [])))) ≡ false
