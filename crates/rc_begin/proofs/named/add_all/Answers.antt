use Rattle.std.proofs.Common.{arith}
use Rattle.rc_begin.proofs.LogSteps.{logs_named}
use Rattle.rc_begin.proofs.Haves.{logs_have_more, all_logs_have}
use Rattle.rc_begin.proofs.named.add_all.Goals as goal

pub loop-place-preserved : goal.loop-place-preserved
loop-place-preserved c = record {
  names = logs_named c.loop-place.named.keys c.add_names.new.named.keys _ c.args.logs.now c.loop-place.place c.index-logs-place.result (omega arith)
      c.index-logs-place.is c.in_ok-add_names.ensures.names c.loop-place.invariant.names;
  has = logs_have_more c.args.logs.now c.loop-place.place c.index-logs-place.result (omega arith) c.index-logs-place.is c.loop-place.invariant.has c.in_ok-add_names.ensures.has;
}

pub returns-clause-has : goal.returns-clause-has
returns-clause-has c = all_logs_have c.args.logs.now c.loop-place.place (omega arith) c.loop-place.invariant.has
