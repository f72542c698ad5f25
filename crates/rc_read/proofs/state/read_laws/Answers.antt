use Rattle.rc_read.proofs.ReadFacts.{is_read}
use Rattle.rc_read.proofs.state.read_laws.Goals as goal

pub returns : goal.returns
returns c = is_read
