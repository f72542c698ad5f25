use Rattle.std.proofs.Common.{ap}
use Rattle.rc_wire.proofs.Riders.{rested}
use Rattle.rc_wire.proofs.pairs.without_mail.Goals as goal

pub rest-requires-else-halts : goal.rest-requires-else-halts
rest-requires-else-halts g c = ap (λ s. s.ended) (rested c.in_ok-wire.field-0.client.pass c.rest.new.pass c.in_ok-wire.ensures.client.1 c.rest.ensures.rests)
