use Rattle.rc_grammar.proofs.Sessions as sessions
use Rattle.rc_grammar.proofs.sessions_speak.Goals as goal

pub returns-clause-begin : goal.returns-clause-begin
returns-clause-begin c = sessions.sessions_begin

pub returns-clause-go_on : goal.returns-clause-go_on
returns-clause-go_on c = sessions.sessions_go_on
