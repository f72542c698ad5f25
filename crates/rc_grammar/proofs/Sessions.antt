-- Sessions begin in the grammar from the bytes of stored logs, and stay so; and what a world says is read back.
use Rattle.std.proofs.Common.{ℕ, ◌+◌, List, [], ◌∷◌, Result, Ok, Err}
use Rattle.std.specs.Prelude.{IfOk, nat_lt}
use Rattle.std.specs.List.{AllByRecursion}
use Rattle.rc_ids.specs.Cluster.{Layout, IsLayout}
use Rattle.rc_ids.specs.declared.names.NodeId.{NodeId}
use Rattle.rc_ids.specs.declared.names.NodeId.TheVariants.{Coord, Shard as ShardServer}
use Rattle.rc_fields.specs.Formats.{IsBytes}
use Rattle.rc_log.specs.Records.{records}
use Rattle.rc_msg.specs.Spelling.{HasEnvelope}
use Rattle.rc_msg.proofs.MsgLaws.{Reads-envelope_in}
use Rattle.rc_record.specs.Spelling.{HasRecord}
use Rattle.rc_record.specs.declared.record.Record.{Record}
use Rattle.rc_record.proofs.RecordLaws.{Reads-decoded}
use Rattle.rc_report.specs.declared.line.Line.{Line}
use Rattle.rc_runs.specs.declared.event.Event.{Event}
use Rattle.rc_protocol.specs.Nodes.{CoordNode, ShardNode, coord_started, shard_started}
use Rattle.rc_runs.specs.Devices.{Device, Fate, Made, Full, FailsAt, opened, powered}
use Rattle.rc_runs.specs.Refusals.{Happening, is_event, after_event, run, limit, wrong}
use Rattle.rc_runs.specs.Session.{Session, Halt, Happened, with_world, with_change, most_text_bytes, text_bytes, with_text, prints, happens, happens_with, happens_within_limits, disk_change}
use Rattle.rc_runs.specs.Stored.{Place, Begun, device_at, head_added, with_head, creates, records_of, owes_head, refusal, takes_log, reads_log, opens_log, begins_node, nodes_of, with_rest, begins_all, if_coord, if_shard, session_of, session_from, new_session}
use Rattle.rc_runs.specs.World.{World, step, printed}
use Rattle.rc_grammar.specs.Acts.{HasLog}
use Rattle.rc_grammar.specs.Shards.{HasShardNode}
use Rattle.rc_grammar.specs.Coordinators.{HasCoordNode}
use Rattle.rc_grammar.specs.Worlds.{HasEvent, HasWorld}
use Rattle.rc_grammar.specs.Back.{IsReadBack, LogIsReadBack, WorldIsReadBack}
use Rattle.rc_grammar.proofs.Lists.{on_cond, on_maybe, all_alike, all_flat}
use Rattle.rc_grammar.proofs.ShardStates.{shard_starts}
use Rattle.rc_grammar.proofs.CoordStates.{coord_starts}
use Rattle.rc_grammar.proofs.Worlds.{worlds_step}
use Rattle.rc_grammar.proofs.Stored.{blobs_are_bytes, records_have}

-- A NODE BEGINS
abbrev HasBegun : Begun → Type 0
HasBegun x = HasLog x.log

abbrev Begins : Result Begun Halt → Type 0
Begins r = IfOk r HasBegun

added_begins : (node : NodeId) (log : List Record) (fate : Fate) (d : Device) → HasLog log → Begins (head_added node log fate d)
added_begins node log Made d h = h
added_begins node log Full d h = tt
added_begins node log (FailsAt at cause) d h = tt

created_begins : (c : Layout) (node : NodeId) (fate : Fate) (d : Device) → Begins (creates c node fate d)
created_begins c node Made d = added_begins node [] _ _ tt
created_begins c node Full d = tt
created_begins c node (FailsAt at cause) d = tt

takes_begins : (c : Layout) (node : NodeId) (d : Device) (blobs : List (List ℕ)) → AllByRecursion IsBytes blobs → Begins (takes_log c node d blobs)
takes_begins c node d blobs own =
    let h = records_have blobs own in
    on_maybe Begins (refusal node c blobs) _ _
    (λ _. on_cond Begins (owes_head blobs) (with_head c node (records_of blobs) d) _ (λ _. added_begins node (records_of blobs) _ _ h) (λ _. h)) (λ _ _. tt)

read_begins : (c : Layout) (node : NodeId) (d : Device) (found : Result (List (List ℕ)) ℕ) → IfOk found (λ blobs. AllByRecursion IsBytes blobs) → Begins (reads_log c node d found)
read_begins c node d (Ok blobs) own = takes_begins c node _ blobs own
read_begins c node d (Err place) own = tt

open_begins : (c : Layout) (node : NodeId) (d : Device) (bytes : List ℕ) → IsBytes bytes → Begins (opens_log c node d bytes)
open_begins c node d [] own = created_begins c node _ _
open_begins c node d (b ∷ bytes) own =
    on_maybe Begins (opened (powered d)) _ _ (λ _. tt) (λ x _. read_begins c node x (records (b ∷ bytes)) (blobs_are_bytes (b ∷ bytes) own))

module _ (p : Place) (bytes : (node : NodeId) → IsBytes (p.content node)) (c : Layout) where
  node_begins : (node : NodeId) → Begins (begins_node p c node)
  node_begins node = on_cond Begins (p.lend_fails node) _ _ (λ _. tt) (λ _. open_begins c node (device_at p node) (p.content node) (bytes node))

  abbrev BeginAll : Result (List Begun) Halt → Type 0
  BeginAll r = IfOk r (λ xs. AllByRecursion HasBegun xs)

  rest_begins : (a : Result Begun Halt) (r : Result (List Begun) Halt) → Begins a → BeginAll r → BeginAll (with_rest a r)
  rest_begins (Ok x) (Ok xs) h own = (h, own)
  rest_begins (Ok x) (Err halt) h own = tt
  rest_begins (Err halt) r h own = tt

  all_begin : (nodes : List NodeId) → BeginAll (begins_all p c nodes)
  all_begin [] = tt
  all_begin (node ∷ nodes) = rest_begins (begins_node p c node) (begins_all p c nodes) (node_begins node) (all_begin nodes)

  pub sessions_begin : IsLayout c → IfOk (new_session p c) (λ z. HasWorld z.world)
  sessions_begin hc = go (begins_all p c (nodes_of c)) (all_begin (nodes_of c))
    where
      coord_of : (node : NodeId) (log : List Record) → HasLog log → AllByRecursion HasCoordNode (if_coord node (coord_started log))
      coord_of (Coord d) log h = (coord_starts log h, tt)
      coord_of (ShardServer d sh) log h = tt

      shard_of : (node : NodeId) (log : List Record) → HasLog log → AllByRecursion HasShardNode (if_shard node (shard_started log))
      shard_of (Coord d) log h = tt
      shard_of (ShardServer d sh) log h = (shard_starts log h, tt)

      session : (xs : List Begun) → AllByRecursion HasBegun xs → HasWorld (session_of c xs).world
      session xs own = record {
        parties = record {
          layout = hc;
          coords = all_flat HasBegun HasCoordNode (λ (x : Begun). if_coord x.node (coord_started x.log)) (λ x h. coord_of x.node x.log h) xs own;
          shards = all_flat HasBegun HasShardNode (λ (x : Begun). if_shard x.node (shard_started x.log)) (λ x h. shard_of x.node x.log h) xs own;
          clients = tt;
        };
        sent = tt;
      }

      go : (r : Result (List Begun) Halt) → BeginAll r → IfOk (session_from c r) (λ z. HasWorld z.world)
      go (Ok xs) own = session xs own
      go (Err halt) own = tt

-- EVENTS HAPPEN
abbrev StaysSo : Happened → Type 0
StaysSo r = IfOk r (λ (y : Session × List Line). HasWorld y.0.world)

prints_so : (z : Session) (lines : List Line) → HasWorld z.world → StaysSo (prints z lines)
prints_so z lines h = on_cond StaysSo (nat_lt most_text_bytes (z.text + text_bytes lines)) _ (Ok (with_text z (z.text + text_bytes lines), lines)) (λ _. tt) (λ _. h)

pub sessions_go_on : (z : Session) → HasWorld z.world → (e : Event) → HasEvent e → StaysSo (happens z e)
sessions_go_on z h e own =
    let change = disk_change z e in
    on_maybe StaysSo (wrong z.world e) (happens_within_limits z e change) _
    (λ _. on_maybe StaysSo (limit z.world e change.course) (happens_with z e change) _
    (λ _. on_maybe StaysSo (with_change z change) _ _ (λ _. tt)
    (λ y _. prints_so (with_world y (step z.world e change.course)) (printed z.world e change.course) (worlds_step z.world h e own change.course)))
    (λ _ _. tt))
    (λ _ _. tt)

pub runs_go_on : (w : World) → HasWorld w → (hs : List Happening) → AllByRecursion (λ (x : Happening). HasEvent x.0) hs → HasWorld (run w hs)
runs_go_on w h [] own = h
runs_go_on w h (x ∷ hs) own = runs_go_on (after_event w x) (on_cond HasWorld (is_event w x) (step w x.0 x.1) w (λ _. worlds_step w h x.0 own.0 x.1) (λ _. h)) hs own.1

-- READ BACK
log_back : (log : List Record) → HasLog log → LogIsReadBack log
log_back log h = all_alike HasRecord _ (λ r own. Reads-decoded.again r own) log h

pub worlds_back : (w : World) → HasWorld w → WorldIsReadBack w
worlds_back w h = record {
  sent = all_alike HasEnvelope IsReadBack (λ e own. Reads-envelope_in.again e own) w.sent h.sent;
  coords = all_alike HasCoordNode (λ (x : CoordNode). LogIsReadBack x.log) (λ x own. log_back x.log own.log) w.parties.coords h.parties.coords;
  shards = all_alike HasShardNode (λ (x : ShardNode). LogIsReadBack x.log) (λ x own. log_back x.log own.log) w.parties.shards h.parties.shards;
}
