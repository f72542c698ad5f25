use Rattle.rc_devices.proofs.Appends as laws
use Rattle.rc_devices.proofs.appends_are_devices.Goals as goal

pub returns : goal.returns
returns c = laws.appends_are_devices
