use Rattle.rc_composition.proofs.Composing as composing
use Rattle.rc_composition.proofs.history_is_one_run.Goals as goal

pub returns : goal.returns
returns c = λ layout ops wire front later legal cells is. composing.one_run layout ops wire legal cells front later is
