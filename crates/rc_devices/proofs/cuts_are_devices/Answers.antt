use Rattle.rc_devices.proofs.Openings as laws
use Rattle.rc_devices.proofs.cuts_are_devices.Goals as goal

pub returns : goal.returns
returns c = laws.cuts_are_devices
