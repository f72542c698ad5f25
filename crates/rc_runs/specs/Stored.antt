-- The place where a run begins: what each node's disk has, and which calls fail there. A node's log is created where there is none, and
-- opened else; then it is tested, and gets a head of the newest format where that is owed.
use Rattle.std.specs.Prelude.{ℕ, Bool, true, false, not, ◌==◌, List, [], ◌∷◌, map, Option, Some, None, Result, Ok, Err, if◌then◌else◌}
use Rattle.std.specs.List.{flat_map}
use Rattle.rc_ids.specs.Tables.{maybe, up_to}
use Rattle.rc_ids.specs.Cluster.{Layout, all_dcs}
use Rattle.rc_ids.specs.declared.names.NodeId.{NodeId}
use Rattle.rc_ids.specs.declared.names.NodeId.TheVariants.{Coord, Shard as ShardServer}
use Rattle.rc_log.specs.Records.{records, size_of}
use Rattle.rc_record.specs.Heads.{new_head}
use Rattle.rc_record.specs.Reading.{decoded}
use Rattle.rc_record.specs.Replay.{shard_replay, coord_replay, newest_head}
use Rattle.rc_record.specs.declared.fault.ReplayFault.{ReplayFault}
use Rattle.rc_record.specs.declared.fault.ReplayFault.TheVariants.{BadRecord, OtherWorld}
use Rattle.rc_record.specs.declared.record.Record.{Record}
use Rattle.rc_record.specs.declared.record.Record.TheVariants.{Head}
use Rattle.rc_report.specs.declared.fault.Which.TheVariants.{Log as LogOf}
use Rattle.rc_report.specs.declared.fault.LogFault.{LogFault}
use Rattle.rc_report.specs.declared.fault.LogFault.TheVariants.{Damaged as LogDamaged, BadRecord as LogRecord, OtherWorld as LogOther}
use Rattle.rc_protocol.specs.Nodes.{CoordNode, ShardNode, coord_started, shard_started}
use Rattle.rc_runs.specs.Starts.{start_of}
use Rattle.rc_runs.specs.World.{started_world}
use Rattle.rc_runs.specs.Devices.{Device, Fate, Made, Full, FailsAt, new_device, created, appended, opened, powered, record_length, at_offset}
use Rattle.rc_runs.specs.Session.{Session, Halt, Limited, LogRefused, FarmFails}

-- what each node's disk has, and which of its calls fail, counted from the start, but for those at which an armed cut falls
pub record Place : Type 0 where
  pub content : NodeId → List ℕ
  pub failing : NodeId → List ℕ
  pub failing_reads : NodeId → List ℕ
  pub select_fails : Bool  -- the selection of the place
  pub lend_fails : NodeId → Bool  -- the making of a node's disk

-- empty disks on which no call fails
abbrev pub in_memory : Place
in_memory = record { content = λ _. []; failing = λ _. []; failing_reads = λ _. []; select_fails = false; lend_fails = λ _. false }

-- A NODE BEGINS
-- its disk, and the records of its log without the heads
pub record Begun : Type 0 where
  pub node : NodeId
  pub device : Device
  pub log : List Record

abbrev pub device_at : Place → NodeId → Device
device_at p node = new_device (p.failing node) (p.failing_reads node)

-- a head of the newest format is added
abbrev pub head_added : NodeId → List Record → Fate → Device → Result Begun Halt
head_added node log Made d = Ok (record { node = node; device = d; log = log })
head_added node log Full d = Err (Limited (LogOf node))
head_added node log (FailsAt at cause) d = Err FarmFails

abbrev pub with_head : Layout → NodeId → List Record → Device → Result Begun Halt
with_head c node log d = let done = appended d (record_length (Head (new_head node c))) in head_added node log done.0 done.1

abbrev pub creates : Layout → NodeId → Fate → Device → Result Begun Halt
creates c node Made d = with_head c node [] d
creates c node fate d = Err FarmFails

-- what was read of a log: why it is refused, or the records without the heads and whether a head of the newest format is owed
abbrev pub fault_of : {A : Type 0} → Result A ReplayFault → Option LogFault
fault_of (Err (BadRecord index)) = Some (LogRecord index)
fault_of (Err OtherWorld) = Some LogOther
fault_of _ = None

abbrev pub refusal : NodeId → Layout → List (List ℕ) → Option LogFault
refusal (Coord d) c blobs = fault_of (coord_replay (Coord d) c blobs)
refusal (ShardServer d sh) c blobs = fault_of (shard_replay (ShardServer d sh) c blobs)

abbrev pub without_head : Record → List Record
without_head (Head h) = []
without_head r = r ∷ []

abbrev pub records_of : List (List ℕ) → List Record
records_of blobs = flat_map (λ (bytes : List ℕ). maybe (decoded bytes) [] without_head) blobs

abbrev pub owes_head : List (List ℕ) → Bool
owes_head blobs = maybe (newest_head blobs) true (λ h. not (h.format == 3))

abbrev pub takes_log : Layout → NodeId → Device → List (List ℕ) → Result Begun Halt
takes_log c node d blobs =
    maybe (refusal node c blobs)
    (if owes_head blobs then with_head c node (records_of blobs) d else Ok (record { node = node; device = d; log = records_of blobs }))
    (λ fault. Err (LogRefused node fault))

-- what its bytes stand for, or the place at which no frame can stand
abbrev pub reads_log : Layout → NodeId → Device → Result (List (List ℕ)) ℕ → Result Begun Halt
reads_log c node d (Ok blobs) = takes_log c node (at_offset d (size_of blobs)) blobs
reads_log c node d (Err place) = Err (LogRefused node (LogDamaged place))

-- a log is created where the disk is empty, and opened else
abbrev pub opens_log : Layout → NodeId → Device → List ℕ → Result Begun Halt
opens_log c node d [] = let done = created d in creates c node done.0 done.1
opens_log c node d (b ∷ bytes) = maybe (opened (powered d)) (Err FarmFails) (λ x. reads_log c node x (records (b ∷ bytes)))

abbrev pub begins_node : Place → Layout → NodeId → Result Begun Halt
begins_node p c node = if p.lend_fails node then Err FarmFails else opens_log c node (device_at p node) (p.content node)

-- ALL NODES, one by one: d1, d1.s1 to d1.sS, d2 and so on
abbrev pub nodes_of_dc : Layout → ℕ → List NodeId
nodes_of_dc c d = Coord d ∷ map (λ (sh : ℕ). ShardServer d sh) (up_to c.shards)

abbrev pub nodes_of : Layout → List NodeId
nodes_of c = flat_map (nodes_of_dc c) (all_dcs c)

abbrev pub and_then : Begun → Result (List Begun) Halt → Result (List Begun) Halt
and_then x (Ok xs) = Ok (x ∷ xs)
and_then x (Err halt) = Err halt

abbrev pub with_rest : Result Begun Halt → Result (List Begun) Halt → Result (List Begun) Halt
with_rest (Ok x) rest = and_then x rest
with_rest (Err halt) rest = Err halt

abbrev pub begins_all : Place → Layout → List NodeId → Result (List Begun) Halt
begins_all p c [] = Ok []
begins_all p c (node ∷ nodes) = with_rest (begins_node p c node) (begins_all p c nodes)

-- WHAT THE LOGS SAY
abbrev pub if_coord : {X : Type 0} → NodeId → X → List X
if_coord (Coord d) x = x ∷ []
if_coord (ShardServer d sh) x = []

abbrev pub if_shard : {X : Type 0} → NodeId → X → List X
if_shard (Coord d) x = []
if_shard (ShardServer d sh) x = x ∷ []

abbrev pub coords_of : List Begun → List CoordNode
coords_of xs = flat_map (λ (x : Begun). if_coord x.node (coord_started x.log)) xs

abbrev pub shards_of : List Begun → List ShardNode
shards_of xs = flat_map (λ (x : Begun). if_shard x.node (shard_started x.log)) xs

-- A SESSION BEGINS
abbrev pub session_of : Layout → List Begun → Session
session_of c xs = record {
  world = started_world c (start_of c (coords_of xs) (shards_of xs)) (coords_of xs) (shards_of xs);
  coords = flat_map (λ (x : Begun). if_coord x.node x.device) xs;
  shards = flat_map (λ (x : Begun). if_shard x.node x.device) xs;
  text = 0;
}

abbrev pub session_from : Layout → Result (List Begun) Halt → Result Session Halt
session_from c (Ok xs) = Ok (session_of c xs)
session_from c (Err halt) = Err halt

abbrev pub new_session : Place → Layout → Result Session Halt
new_session p c = session_from c (begins_all p c (nodes_of c))
