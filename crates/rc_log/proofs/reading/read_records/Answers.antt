use Rattle.std.proofs.Common.{◌≡◌, ◌+◌, length, List, ℕ, [], ◌∷◌, ◌++◌, ap, ◌∙◌, arith}
use Rattle.std.proofs.lemmas.List.{nil_from_length}
use Rattle.rc_log.specs.Records.{records_from, size_of}
use Rattle.rc_log.proofs.Frames.{ahead, found_none, found_shut, found_broken, found_next, passed_next, size_of-push}
use Rattle.rc_log.proofs.reading.read_records.Goals as goal

pub returns-then-gate-ne-OPEN-clause-ok : goal.returns-then-gate-ne-OPEN-clause-ok
returns-then-gate-ne-OPEN-clause-ok c =
    found_shut _ _ _ _ c.loop-gate.invariant.found _ _ c.in-Some.ensures.cases.0 c.if-gate-ne-OPEN.true

pub returns-in_default-next_frame-clause-err : goal.returns-in_default-next_frame-clause-err
returns-in_default-next_frame-clause-err c =
    found_broken _ _ _ _ c.loop-gate.invariant.found _ _ _ c.in-Some.ensures.cases.0 c.if-gate-ne-OPEN.false c.in_default-next_frame.ensures.err

pub loop-gate-preserved : goal.loop-gate-preserved
loop-gate-preserved c =
    let r = c.in-Ok.record.now in
    let pushed : c.push.new.self ≡ c.loop-gate.all ++ r ∷ [] = c.in_ok-push.ensures.ok ∙ ap (λ (b : List ℕ). c.loop-gate.all ++ b ∷ []) c.in_ok-from_bytes.ensures in
    record {
      found = ap (λ (l : List (List ℕ)). ahead l (records_from (c.loop-gate.place + (5 + length r)) 0 c.in-Ok.after.now)) pushed
          ∙ found_next c.loop-gate.all c.loop-gate.place c.args.bytes.now c.loop-gate.rest.now c.loop-gate.invariant.found _ _ r c.in-Ok.after.now c.in-Some.ensures.cases.0 c.if-gate-ne-OPEN.false c.in-Ok.ensures.ok;
      passed = passed_next c.loop-gate.all c.loop-gate.place c.args.bytes.now c.loop-gate.rest.now c.loop-gate.invariant.found c.in-Some.gate.now c.in-Some.behind.now r c.in-Ok.after.now c.in-Some.ensures.cases.0 c.in-Ok.ensures.ok c.loop-gate.invariant.passed;
      end = omega (arith, c.loop-gate.invariant.end, ap size_of pushed, size_of-push c.loop-gate.all r);
    }

pub returns-clause-err : goal.returns-clause-err
returns-clause-err c =
    found_none _ _ _ _ c.loop-gate.invariant.found (nil_from_length _ c.in_default.ensures.cases)
