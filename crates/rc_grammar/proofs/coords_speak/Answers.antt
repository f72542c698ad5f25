use Rattle.rc_grammar.proofs.Coordinators as coordinators
use Rattle.rc_grammar.proofs.coords_speak.Goals as goal

pub returns : goal.returns
returns c = coordinators.coords_speak
