use Rattle.rc_shard.proofs.ReplayFacts.{replays, gives-back}
use Rattle.rc_shard.proofs.laws.replay_laws.Goals as goal

pub returns-clause-replays : goal.returns-clause-replays
returns-clause-replays c = λ node cl log s back. (replays node cl log s back, back.by_number)

pub returns-clause-keeps : goal.returns-clause-keeps
returns-clause-keeps c = λ node cl log d sh s v cause back has.
    gives-back node cl log d sh s v cause back c.record_laws.ensures.again (λ r z o. (c.order_laws.ensures.shows z r o, c.order_laws.ensures.keeps z r o)) has
