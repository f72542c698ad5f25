use Rattle.rc_protocol_rows.proofs.FailingCallRuns.{create-coord, create-shard, append-shard, append-vote, learn-11, learn-12, learn-13, learned, unopened}
use Rattle.rc_protocol_rows.proofs.failing_calls.Goals as goal

pub returns : goal.returns
returns c = record { creation_of_coord = create-coord; creation_of_shard = create-shard; prepare = append-shard; vote = append-vote; learn_first = learn-11; learn_second = learn-12; learn_third = learn-13; learned = learned; opening = unopened }
