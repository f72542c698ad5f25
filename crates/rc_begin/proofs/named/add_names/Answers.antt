use Rattle.std.proofs.Common.{ℕ, List, subst, arith}
use Rattle.std.specs.List.{AllByRecursion}
use Rattle.rc_record.specs.Spelling.{HasRecord}
use Rattle.rc_runs.specs.Stored.{records_of}
use Rattle.rc_begin.proofs.LogSteps.{named_step}
use Rattle.rc_begin.proofs.Haves.{blobs_have_more, all_blobs_have}
use Rattle.rc_begin.proofs.named.add_names.Goals as goal

pub loop-place-preserved : goal.loop-place-preserved
loop-place-preserved c = record {
  names = named_step c.loop-place.named.keys c.add_blob.new.named.keys _ c.as_slice-log.result.now c.loop-place.place c.index-log-place.result
      (omega arith) c.index-log-place.is c.in_ok-add_blob.ensures.names c.loop-place.invariant.names;
  has = blobs_have_more c.as_slice-log.result.now c.loop-place.place c.index-log-place.result (omega arith) c.index-log-place.is c.loop-place.invariant.has c.in_ok-add_blob.ensures.has;
}

pub returns-clause-has : goal.returns-clause-has
returns-clause-has c = subst (λ (bs : List (List ℕ)). AllByRecursion HasRecord (records_of bs)) c.as_slice-log.ensures (all_blobs_have c.as_slice-log.result.now c.loop-place.place (omega arith) c.loop-place.invariant.has)
