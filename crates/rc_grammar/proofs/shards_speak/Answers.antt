use Rattle.rc_grammar.proofs.Shards as shards
use Rattle.rc_grammar.proofs.shards_speak.Goals as goal

pub returns : goal.returns
returns c = shards.shards_speak
