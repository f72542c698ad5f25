use Rattle.std.proofs.Common.{◌≡◌, ℕ, ◌≤◌, ◌+◌, length, map, take, Result, Ok, Err, OnErr, ap, ◌∙◌, arith}
use Rattle.rc_locks.specs.Runs.{said_by, ran}
use Rattle.rc_locks.proofs.RunFacts.{may_call, after_more, answers_more, after_all, answers_all}
use Rattle.rc_locks.proofs.run.run_locks.Goals as goal

on_err : {T E : Type 0} (r : Result T E) (P : Type 0) → P → OnErr r P
on_err (Ok x) P p = tt
on_err (Err e) P p = p

pub run_call-requires : goal.run_call-requires
run_call-requires g c =
    may_call _ _ c.args.calls.now c.loop-call.call-index c.call-item.result c.requires c.loop-call-test.true c.call-item.is c.loop-call.invariant.left

pub returns-in_err-run_call-clause-err : goal.returns-in_err-run_call-clause-err
returns-in_err-run_call-clause-err g c =
    let state = g.L.LockTable.state in
    on_err c.from_residual.result
    ((n : ℕ) × (n ≤ length c.args.calls.now) × (state c.run_call.new.table ≡ (ran (state c.args.table.now) (take n c.args.calls.now)).1))
    (c.loop-call.call-index, omega (arith, c.loop-call-test.true), c.in_err-run_call.ensures.err ∙ c.loop-call.invariant.left)

pub returns-in_err-push-clause-err : goal.returns-in_err-push-clause-err
returns-in_err-push-clause-err g c =
    let state = g.L.LockTable.state in
    on_err c.from_residual-in_err-push.result
    ((n : ℕ) × (n ≤ length c.args.calls.now) × (state c.run_call.new.table ≡ (ran (state c.args.table.now) (take n c.args.calls.now)).1)) (
      c.loop-call.call-index + 1,
      omega (arith, c.loop-call-test.true),
      after_more _ _ _ c.args.calls.now c.loop-call.call-index c.call-item.result c.loop-call-test.true c.call-item.is c.loop-call.invariant.left c.in_ok-run_call.ensures.ok,
    )

pub loop-call-preserved : goal.loop-call-preserved
loop-call-preserved g c = record {
  left = after_more _ _ _ c.args.calls.now c.loop-call.call-index c.call-item.result c.loop-call-test.true c.call-item.is c.loop-call.invariant.left c.in_ok-run_call.ensures.ok;
  said =
      ap (map said_by) c.in_ok-push.ensures.items
      ∙ answers_more _ _ c.args.calls.now c.loop-call.call-index c.call-item.result c.loop-call.answers.items c.in_ok-run_call.field-0 c.loop-call-test.true c.call-item.is
      c.loop-call.invariant.left c.loop-call.invariant.said c.in_ok-run_call.ensures.said;
}

pub returns-clause-answers : goal.returns-clause-answers
returns-clause-answers g c = answers_all _ c.args.calls.now c.loop-call.call-index _ c.loop-call-test.false c.loop-call.invariant.said

pub returns-clause-after : goal.returns-clause-after
returns-clause-after g c = after_all _ _ c.args.calls.now c.loop-call.call-index c.loop-call-test.false c.loop-call.invariant.left
