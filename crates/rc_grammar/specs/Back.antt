-- What a world says and keeps is read back from its bytes as it is.
use Rattle.std.specs.Prelude.{◌≡◌, Some, List}
use Rattle.std.specs.List.{AllByRecursion}
use Rattle.rc_msg.specs.declared.msg.Envelope.{Envelope}
use Rattle.rc_msg.specs.Spelling.{envelope_bytes}
use Rattle.rc_msg.specs.Reading.{envelope_in}
use Rattle.rc_record.specs.Reading.{decoded}
use Rattle.rc_record.specs.Spelling.{record_bytes}
use Rattle.rc_record.specs.declared.record.Record.{Record}
use Rattle.rc_protocol.specs.Nodes.{CoordNode, ShardNode}
use Rattle.rc_runs.specs.World.{World}

abbrev pub IsReadBack : Envelope → Type 0
IsReadBack e = envelope_in (envelope_bytes e) ≡ Some e

abbrev pub LogIsReadBack : List Record → Type 0
LogIsReadBack log = AllByRecursion (λ (r : Record). decoded (record_bytes r) ≡ Some r) log

pub record WorldIsReadBack (w : World) : Type 0 where
  pub sent : AllByRecursion IsReadBack w.sent
  pub coords : AllByRecursion (λ (x : CoordNode). LogIsReadBack x.log) w.parties.coords
  pub shards : AllByRecursion (λ (x : ShardNode). LogIsReadBack x.log) w.parties.shards
