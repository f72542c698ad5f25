use Rattle.rc_record.proofs.RecordLaws.{Reads-decoded}
use Rattle.rc_coord.proofs.ReplayFacts.{laws}
use Rattle.rc_coord.proofs.laws.coord_laws.Goals as goal

pub returns : goal.returns
returns c = λ node layout. laws node layout (λ r has. Reads-decoded.again r has)
