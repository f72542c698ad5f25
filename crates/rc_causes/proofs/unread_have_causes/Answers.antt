use Rattle.rc_causes.proofs.Unreading as unreading
use Rattle.rc_causes.proofs.unread_have_causes.Goals as goal

pub returns : goal.returns
returns c = unreading.unread_have_causes
