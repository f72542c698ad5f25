use Rattle.rc_grammar.proofs.Sessions as sessions
use Rattle.rc_grammar.proofs.Worlds as worlds
use Rattle.rc_grammar.proofs.worlds_speak.Goals as goal

pub returns-clause-steps : goal.returns-clause-steps
returns-clause-steps c = worlds.worlds_step

pub returns-clause-new : goal.returns-clause-new
returns-clause-new c = worlds.new_worlds

pub returns-clause-started : goal.returns-clause-started
returns-clause-started c = worlds.started_worlds

pub returns-clause-runs : goal.returns-clause-runs
returns-clause-runs c = sessions.runs_go_on

pub returns-clause-deeds : goal.returns-clause-deeds
returns-clause-deeds c = worlds.deeds_speak
