use Rattle.rc_record.proofs.OrderFacts.{shown-replayed}
use Rattle.rc_record.proofs.shard.order_laws.Goals as goal

pub returns : goal.returns
returns c = record {
  start = record { parts = tt; finished = tt };
  keeps = λ s r is. (shown-replayed s r is).1;
  shows = λ s r is. (shown-replayed s r is).0;
}
