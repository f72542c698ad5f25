-- What a row of the coordinator did.
use Rattle.std.specs.Prelude.{◌≡◌, true, false, ◌++◌, Option}
use Rattle.rc_record.specs.declared.record.Record.{Record}
use Rattle.rc_protocol.specs.Messages.{Posts}
use Rattle.rc_protocol.specs.Coordinator.{CoordAct, CoordVolatile}
use Rattle.rc_protocol.specs.Nodes.{CoordNode, coord_after}

-- it wrote the act's record, left its tables and sent its messages, and the act does not lack a ballot
abbrev pub Does : CoordAct → Option Record → CoordVolatile → Posts → Posts → Type 0
Does act written tables before sent = (written ≡ act.logs) × (tables ≡ act.after) × (sent ≡ before ++ act.sends) × (act.spent ≡ false)

-- the act lacks a ballot, and nothing was done
abbrev pub Spares : CoordAct → CoordVolatile → CoordVolatile → Posts → Posts → Type 0
Spares act old new before sent = (act.spent ≡ true) × (new ≡ old) × (sent ≡ before)

-- the coordinator after an act, and the messages sent
pub record Handled (act : CoordAct) (old new : CoordNode) (before sent : Posts) : Type 0 where
  pub node : new ≡ coord_after old act
  pub sends : sent ≡ before ++ act.sends
  pub spared : act.spent ≡ false

-- the act lacks a ballot, and coordinator and messages are as before
pub record Spent (act : CoordAct) (old new : CoordNode) (before sent : Posts) : Type 0 where
  pub lacks : act.spent ≡ true
  pub node : new ≡ old
  pub sends : sent ≡ before
