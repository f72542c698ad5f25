-- What moves a node, as the rows have it.
use Rattle.rc_protocol.specs.Acts.{NodeCause, Came as MessageCame, Catches as CatchesUp, Takes as TakesOver}
use Rattle.rc_host.specs.declared.node.Cause.{Cause}
use Rattle.rc_host.specs.declared.node.Cause.TheVariants.{Came, Catches, Takes}

abbrev pub cause_of : Cause → NodeCause
cause_of (Came from msg) = MessageCame from msg.now
cause_of Catches = CatchesUp
cause_of (Takes tx) = TakesOver tx
