use Rattle.rc_causes.proofs.Calling.{appends_are_told}
use Rattle.rc_causes.proofs.devices_are_told.Goals as goal

pub returns : goal.returns
returns c = appends_are_told
