use Rattle.std.proofs.Common.{sym, ◌∙◌}
use Rattle.rc_wire.proofs.wire.Wire.begin.Goals as goal

pub take-requires-clause-lock : goal.take-requires-clause-lock
take-requires-clause-lock g c = c.requires.lock ∙ sym c.args.self.now.named.0

pub take-requires-clause-idle : goal.take-requires-clause-idle
take-requires-clause-idle g c = (_, c.requires.alone)

pub returns-clause-lock : goal.returns-clause-lock
returns-clause-lock g c = c.take.ensures.lock ∙ c.requires.lock

pub returns-clause-served : goal.returns-clause-served
returns-clause-served g c = c.take.ensures.served _ c.requires.alone

pub returns-clause-fits : goal.returns-clause-fits
returns-clause-fits g c = c.take.ensures.fits _ c.requires.alone
