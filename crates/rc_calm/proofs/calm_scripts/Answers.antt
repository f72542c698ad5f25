use Rattle.rc_calm.proofs.Law as law
use Rattle.rc_calm.proofs.calm_scripts.Goals as goal

pub returns : goal.returns
returns c = record { writes = law.calm_law }
