use Rattle.rc_causes.proofs.Stopping as stopping
use Rattle.rc_causes.proofs.stops_have_causes.Goals as goal

pub returns : goal.returns
returns c = stopping.stops_have_causes
