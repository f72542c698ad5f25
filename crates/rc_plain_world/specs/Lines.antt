-- Lines of a script, put behind the lines so far.
use Rattle.std.specs.Prelude.{◌≡◌, ℕ, if◌then◌else◌, List, [], ◌∷◌, Option, None, slice_get, Ok}
use Rattle.rc_ids.specs.Tables.{maybe}
use Rattle.rc_ids.specs.Cluster.{Layout}
use Rattle.rc_msg.specs.declared.msg.Envelope.{Envelope}
use Rattle.rc_report.specs.declared.line.Line.{Line}
use Rattle.rc_report.specs.declared.line.Line.TheVariants.{Pending as PendingLine}
use Rattle.rc_runs.specs.World.{message, is_shard_of}
use Rattle.rc_runs.specs.Session.{Session, Happened}
use Rattle.rc_ids.specs.declared.names.NodeId.TheVariants.{Shard as ShardServer}
use Rattle.rc_protocol.specs.Nodes.{ShardNode, shard_index}
use Rattle.rc_protocol.specs.Shown.{row_lines}
use Rattle.rc_plain_world.specs.Hosts.{ShardSite}
use Rattle.rc_runs.specs.Script.{LineDone, then_line}
use Rattle.rc_plain_world.specs.declared.fault.SessionFault.{SessionFault}
use Rattle.rc_plain_world.specs.Sessions.{Halts, Halted, Performed, Stay}

-- what was done, with the lines so far before what it printed
abbrev pub Did : LineDone → Session → List Line → List Line → Type 0
Did done session before now = Performed (then_line before done) session now

abbrev pub Ended : SessionFault → LineDone → List Line → List Line → Type 0
Ended fault done before now = Halted fault (then_line before done) now

-- the own lines were counted, or refused and taken away
pub record Counts (went : Happened) (session : Session) (own kept lines : List Line) : Type 0 where
  pub went_so : went ≡ Ok (session, own)
  pub stays : lines ≡ kept

pub record Refuses (fault : SessionFault) (went : Happened) (kept lines : List Line) : Type 0 where
  pub halts : Halts fault went
  pub stays : Stay fault kept lines

-- the line of a pending message
abbrev pub line_of : List Envelope → ℕ → List Line
line_of sent n = maybe (message sent n) [] (λ e. PendingLine n e ∷ [])

-- what shows a shard server of d, of those in their places
abbrev pub shown_at : Layout → List ShardNode → ℕ → ℕ → List Line
shown_at c shards d s = maybe (if is_shard_of c d s then slice_get shards (shard_index c d s) else None) [] (row_lines (ShardServer d s))

-- the shard server of d, of those with their disks in their places
abbrev pub host_at : Layout → List ShardSite → ℕ → ℕ → Option ShardSite
host_at c sites d s = if is_shard_of c d s then slice_get sites (shard_index c d s) else None
