use Rattle.rc_causes.proofs.Counting as counting
use Rattle.rc_causes.proofs.faults_are_counted.Goals as goal

pub returns : goal.returns
returns c = counting.faults_are_counted
