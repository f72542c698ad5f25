use Rattle.rc_grammar.proofs.Sessions as sessions
use Rattle.rc_grammar.proofs.all_is_read_back.Goals as goal

pub returns : goal.returns
returns c = sessions.worlds_back
