-- Events and worlds in the grammar.
use Rattle.std.specs.Prelude.{ℕ, Option, None}
use Rattle.std.specs.List.{AllByRecursion}
use Rattle.rc_ids.specs.Cluster.{IsLayout}
use Rattle.rc_ids.specs.Texts.{IsKey, IsValue}
use Rattle.rc_fields.specs.Ranges.{IsTxNumber, IsDcNumber, IsNodeName}
use Rattle.rc_msg.specs.Spelling.{HasEnvelope}
use Rattle.rc_record.specs.declared.record.Record.{Record}
use Rattle.rc_runs.specs.declared.event.Event.{Event}
use Rattle.rc_runs.specs.declared.event.Event.TheVariants.{Begin, Read, Write, Commit, Cancel, Retry, Vanish, Take, Catch, Deliver, Lose, Crash, CrashAt, Restart}
use Rattle.rc_protocol.specs.Client.{Client}
use Rattle.rc_runs.specs.World.{Parties, World, Deed, ByCoord, ByShard, CoordStops, ShardStops, sends_of}
use Rattle.rc_grammar.specs.Acts.{HasLogged, HasPosts}
use Rattle.rc_grammar.specs.Shards.{HasShardNode}
use Rattle.rc_grammar.specs.Coordinators.{HasCoordNode}
use Rattle.rc_grammar.specs.Clients.{HasClient}

-- what the event names has a name, and what it says has a spelling
abbrev pub HasEvent : Event → Type 0
HasEvent (Begin t) = IsTxNumber t
HasEvent (Read t k) = IsTxNumber t × IsKey k
HasEvent (Write t k value) = IsTxNumber t × IsKey k × IsValue value
HasEvent (Commit t) = IsTxNumber t
HasEvent (Cancel t k) = IsTxNumber t × IsKey k
HasEvent (Retry t) = IsTxNumber t
HasEvent (Vanish t) = IsTxNumber t
HasEvent (Take d t) = IsDcNumber d × IsTxNumber t
HasEvent (Catch node) = IsNodeName node
HasEvent (Deliver n) = Unit {0}
HasEvent (Lose n) = Unit {0}
HasEvent (Crash node) = IsNodeName node
HasEvent (CrashAt node k pick) = IsNodeName node
HasEvent (Restart node) = IsNodeName node

-- the client of a transaction
abbrev pub HasClientOf : ℕ × Client → Type 0
HasClientOf entry = IsTxNumber entry.0 × HasClient entry.1

pub record HasParties (w : Parties) : Type 0 where
  pub layout : IsLayout w.layout
  pub coords : AllByRecursion HasCoordNode w.coords
  pub shards : AllByRecursion HasShardNode w.shards
  pub clients : AllByRecursion HasClientOf w.clients

-- all messages that were ever sent have a spelling
pub record HasWorld (w : World) : Type 0 where
  pub parties : HasParties w.parties
  pub sent : AllByRecursion HasEnvelope w.sent

-- what is left in a log by a deed
abbrev pub logged_by : Deed → Option Record
logged_by (ByCoord d x act) = act.logs
logged_by (ByShard d sh x act) = act.logs
logged_by (CoordStops d x kept) = kept
logged_by (ShardStops d sh x kept) = kept
logged_by _ = None

pub record DeedSpeaks (d : Deed) : Type 0 where
  pub logs : HasLogged (logged_by d)
  pub sends : HasPosts (sends_of d)
