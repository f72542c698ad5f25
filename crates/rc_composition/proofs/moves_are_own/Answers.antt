use Rattle.rc_composition.proofs.Moving as moving
use Rattle.rc_composition.proofs.moves_are_own.Goals as goal

pub returns : goal.returns
returns c = moving.moves_alone
