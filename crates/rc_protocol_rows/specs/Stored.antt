-- Scripts over the logs that an earlier script left.
use Rattle.std.specs.Prelude.{ℕ, List, [], ◌∷◌, ◌++◌, map, length, take, codes, Bool, true, false, cond, Option, Some, None, Result, Ok, Err, if◌then◌else◌, slice_get}
use Rattle.std.specs.List.{flat_map}
use Rattle.rc_ids.specs.Tables.{maybe}
use Rattle.rc_ids.specs.declared.names.NodeId.{NodeId}
use Rattle.rc_ids.specs.declared.names.NodeId.TheVariants.{Coord, Shard}
use Rattle.rc_fields.specs.Spelling.{u32_bytes}
use Rattle.rc_record.specs.declared.record.Record.{Record}
use Rattle.rc_record.specs.declared.record.Record.TheVariants.{Head}
use Rattle.rc_ids.specs.Parties.{is_same_node}
use Rattle.rc_record.specs.Heads.{new_head}
use Rattle.rc_record.specs.Spelling.{record_bytes}
use Rattle.rc_script.specs.Reading.{script_of}
use Rattle.rc_script.specs.declared.script.NumberedCommand.{NumberedCommand}
use Rattle.rc_script.specs.declared.fault.ScriptFault.{ScriptFault}
use Rattle.rc_runs.specs.World.{World, coord_at, shard_at}
use Rattle.rc_runs.specs.Session.{Session, Halt}
use Rattle.rc_runs.specs.Script.{performs}
use Rattle.rc_runs.specs.Stored.{Place, in_memory, new_session}
use Rattle.rc_runs.specs.Text.{Done, BadScript, LimitMet, BadLog}
use Rattle.rc_protocol_rows.specs.Cases.{Case, RunGivesAt, ended, three_dcs}

-- THE LOGS that a script left
unfoldable pub runs_on : Session → List NumberedCommand → Session
runs_on z [] = z
runs_on z (c ∷ cs) = runs_on (performs z c.command).after cs

abbrev pub log_of : World → NodeId → List Record
log_of w (Coord d) = maybe (coord_at w.parties d) [] (λ x. x.log)
log_of w (Shard d s) = maybe (shard_at w.parties d s) [] (λ x. x.log)

-- a log's bytes: of each record an open gate, its length and itself; then a closed gate
abbrev pub log_bytes : List (List ℕ) → List ℕ
log_bytes records = flat_map (λ (r : List ℕ). (1 ∷ []) ++ u32_bytes (length r) ++ r) records ++ 0 ∷ []

abbrev pub stored_of : Session → NodeId → List ℕ
stored_of z node = log_bytes (map record_bytes (Head (new_head node z.world.parties.layout) ∷ log_of z.world node))

abbrev pub left_by_session : Result Session Halt → List NumberedCommand → NodeId → List ℕ
left_by_session (Ok z) cs node = stored_of (runs_on z cs) node
left_by_session (Err halt) cs node = []

-- by a script of three datacentres of one shard each, without its first line
abbrev pub left_by : Result (List NumberedCommand) ScriptFault → NodeId → List ℕ
left_by (Ok []) node = []
left_by (Ok (world ∷ cs)) node = left_by_session (new_session in_memory three_dcs) cs node
left_by (Err fault) node = []

abbrev pub with_stored : (NodeId → List ℕ) → Place
with_stored content = record in_memory { content = content }

abbrev pub over : List (List ℕ) → Place
over script = with_stored (left_by (script_of (ended script)))

-- one node's log is another one
abbrev pub but_for : Place → NodeId → List ℕ → Place
but_for place node other = record place { content = λ n. if is_same_node n node then other else place.content n }

-- t1 wrote a key and committed
abbrev pub after_commit : Place
after_commit = over (codes "world 3 1" ∷ codes "begin t1" ∷ codes "write t1 x a" ∷ codes "commit t1" ∷ codes "settle" ∷ [])

-- a quorum has voted for it, and d1 has not heard
abbrev pub after_votes : Place
after_votes = over (codes "world 3 1" ∷ codes "begin t1" ∷ codes "write t1 x a" ∷ codes "commit t1" ∷ codes "step 16" ∷ codes "deliver 20 24" ∷ [])

abbrev pub gives : List (List ℕ) → List (List ℕ) → Case
gives script text = record { script = ended script; text = ended text; ending = Done }

-- what was committed is there, and is not of this order
abbrev pub second_run : Case
second_run =
    gives
    (codes "world 3 1" ∷ codes "order" ∷ codes "show d1" ∷ codes "begin t2" ∷ codes "read t2 x" ∷ codes "settle" ∷ codes "commit t2" ∷ codes "settle" ∷ codes "order" ∷ [])
    (codes "order" ∷ codes "d1.s1 x 1 free a" ∷ codes "t2 read x 1 a" ∷ codes "settled 7" ∷ codes "t2 committed" ∷ codes "settled 24" ∷ codes "order t2" ∷ [])

-- what was chosen in the earlier run is finished in this one
abbrev pub chosen_before : Case
chosen_before =
    gives
    (codes "world 3 1" ∷ codes "show d1" ∷ codes "take d2 t1" ∷ codes "settle" ∷ codes "show d1" ∷ codes "order" ∷ [])
    (codes "d1.s1 x 0 held -" ∷ codes "settled 30" ∷ codes "d1.s1 x 1 free a" ∷ codes "order" ∷ [])

-- a transaction that a log names is begun, and has vanished
abbrev pub begun_before : Case
begun_before = record { script = ended (codes "world 3 1" ∷ codes "begin t1" ∷ []); text = ended (codes "line 2: t1 is begun twice" ∷ []); ending = BadScript }

abbrev pub vanished_before : Case
vanished_before = record { script = ended (codes "world 3 1" ∷ codes "read t1 x" ∷ []); text = ended (codes "line 2: t1 has vanished" ∷ []); ending = BadScript }

-- logs of another world: other shards, other weights
abbrev pub other_shards : Case
other_shards = record { script = ended (codes "world 3 2" ∷ codes "split m" ∷ []); text = ended (codes "d1: another world" ∷ []); ending = BadLog }

abbrev pub other_weights : Case
other_weights = record { script = ended (codes "world 3 1 2 1 1" ∷ []); text = ended (codes "d1: another world" ∷ []); ending = BadLog }

abbrev pub bad_log : List ℕ → Case
bad_log line = record { script = ended (codes "world 3 1" ∷ []); text = ended (line ∷ []); ending = BadLog }

-- a log that is cut inside a frame
abbrev pub cut_log : Place
cut_log = but_for after_commit (Shard 1 1) (take 43 (after_commit.content (Shard 1 1)))

abbrev pub head_bytes_of : NodeId → List ℕ
head_bytes_of node = record_bytes (Head (new_head node three_dcs))

-- behind the head stands one byte that is no record
abbrev pub refused_record : Place
refused_record = but_for after_commit (Coord 2) (log_bytes (head_bytes_of (Coord 2) ∷ (9 ∷ []) ∷ []))

-- the last ballot was promised
abbrev pub last_ballot : Place
last_ballot = but_for after_commit (Coord 2) (log_bytes (head_bytes_of (Coord 2) ∷ (3 ∷ 0 ∷ 0 ∷ 0 ∷ 5 ∷ 128 ∷ 0 ∷ 0 ∷ 0 ∷ []) ∷ []))

abbrev pub no_ballot : Case
no_ballot = record { script = ended (codes "world 3 1" ∷ codes "take d2 t5" ∷ []); text = ended (codes "line 2: limit of ballots" ∷ []); ending = LimitMet }

-- a log of the first format that deletes a key
abbrev pub gone_in_first_format : Place
gone_in_first_format =
    with_stored (λ n.
    if is_same_node n (Shard 1 1)
    then log_bytes ((0 ∷ 1 ∷ 1 ∷ 1 ∷ 1 ∷ 3 ∷ 1 ∷ []) ∷ (1 ∷ 0 ∷ 0 ∷ 0 ∷ 1 ∷ 1 ∷ 1 ∷ 120 ∷ 0 ∷ 0 ∷ 0 ∷ 0 ∷ 0 ∷ 0 ∷ 0 ∷ 1 ∷ 1 ∷ 0 ∷ 1 ∷ 0 ∷ []) ∷ [])
    else [])
