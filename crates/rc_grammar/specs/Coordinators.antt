-- Coordinators whose states are in the grammar.
use Rattle.std.specs.Prelude.{ℕ}
use Rattle.std.specs.List.{AllByRecursion}
use Rattle.rc_body.specs.Pages.{TxsDiffer}
use Rattle.rc_body.specs.Spelling.{HasBody, HasDecision, HasReport, HasOutcome}
use Rattle.rc_body.specs.declared.decision.Decision.{Decision}
use Rattle.rc_fields.specs.Ranges.{IsBallotNumber, IsPlace}
use Rattle.rc_record.specs.CoordState.{coord_applied}
use Rattle.rc_protocol.specs.Nodes.{CoordNode, applied}
use Rattle.rc_protocol.specs.Coordinator.{CoordDurable, CoordVolatile, CoordAct, GatherState, TakeoverState}
use Rattle.rc_grammar.specs.Acts.{HasLogged, HasLog, HasPosts}

abbrev pub HasPromise : ℕ × ℕ → Type 0
HasPromise promise = IsBallotNumber promise.1

abbrev pub HasAccepted : ℕ × (ℕ × Decision) → Type 0
HasAccepted accepted = IsBallotNumber accepted.1.0 × HasDecision accepted.1.1

-- the list of outcomes has each transaction once
pub record HasCoordDurable (s : CoordDurable) : Type 0 where
  pub promises : AllByRecursion HasPromise s.promises
  pub accepted : AllByRecursion HasAccepted s.accepted
  pub outcomes : AllByRecursion HasOutcome s.outcomes
  pub apart : TxsDiffer s.outcomes

abbrev pub HasGather : ℕ × GatherState → Type 0
HasGather gather = IsBallotNumber gather.1.ballot × HasBody gather.1.body

abbrev pub HasTakeover : ℕ × TakeoverState → Type 0
HasTakeover takeover = IsBallotNumber takeover.1.ballot × HasReport takeover.1.best

abbrev pub HasCursor : ℕ × ℕ → Type 0
HasCursor cursor = IsPlace cursor.1

pub record HasCoordVolatile (v : CoordVolatile) : Type 0 where
  pub gathers : AllByRecursion HasGather v.gathers
  pub takeovers : AllByRecursion HasTakeover v.takeovers
  pub cursors : AllByRecursion HasCursor v.cursors

pub record HasCoordNode (x : CoordNode) : Type 0 where
  pub log : HasLog x.log
  pub durable : HasCoordDurable x.durable
  pub volatile : HasCoordVolatile x.volatile

-- all that the act says has a spelling, and the states after it are in the grammar
pub record CoordSpeaks (s : CoordDurable) (act : CoordAct) : Type 0 where
  pub logs : HasLogged act.logs
  pub sends : HasPosts act.sends
  pub durable : HasCoordDurable (applied coord_applied s act.logs)
  pub volatile : HasCoordVolatile act.after
