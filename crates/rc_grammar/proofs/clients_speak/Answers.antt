use Rattle.rc_grammar.proofs.Clients as clients
use Rattle.rc_grammar.proofs.clients_speak.Goals as goal

pub returns : goal.returns
returns c = clients.clients_speak
