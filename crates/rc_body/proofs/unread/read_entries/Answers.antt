use Rattle.std.proofs.Common.{subst}
use Rattle.std.proofs.lemmas.Result.{err_from_is_err_and}
use Rattle.rc_fields.specs.Formats.{many_at}
use Rattle.rc_fields.proofs.ManyLoop.{many-goes_on, many-ends, many-may_not, many-passes}
use Rattle.rc_body.specs.Reading.{entry_at, is_body}
use Rattle.rc_body.specs.Bodies.{IsBody}
use Rattle.rc_body.proofs.ReadingLaws.{is_body-holds}
use Rattle.rc_body.proofs.Growing.{is_body-more}
use Rattle.rc_body.proofs.unread.read_entries.Goals as goal

pub returns-in_err-entry : goal.returns-in_err-entry
returns-in_err-entry c =
    let p = err_from_is_err_and c.from_residual.result c.from_residual.ensures.1 in
    rw (p.1, p.2)
    (many-ends is_body entry_at c.loop.body c.args.count c.loop.counter c.loop.fields c.args.fields.now c.in_err-entry.field-0.0 c.loop-test.true
    c.in_err-entry.ensures c.loop.invariant.read)

pub returns-in_err-grow_body : goal.returns-in_err-grow_body
returns-in_err-grow_body c =
    let p = err_from_is_err_and c.from_residual-in_err-grow_body.result c.from_residual-in_err-grow_body.ensures.1 in
    rw (p.1, p.2)
    (many-may_not is_body entry_at c.loop.body c.args.count c.loop.counter c.loop.fields c.in_ok-entry.entry c.read_entry.new.fields c.args.fields.now c.in_err-grow_body.field-0.0
    is_body-more c.loop-test.true c.in_ok-entry.ensures c.in_err-grow_body.ensures.err c.loop.invariant.read)

pub loop-preserved : goal.loop-preserved
loop-preserved c = record {
  read =
      rw c.in_ok-grow_body.ensures.ok
      (many-goes_on entry_at c.loop.body c.args.count c.loop.counter c.loop.fields c.in_ok-entry.entry c.read_entry.new.fields (many_at entry_at c.args.count c.args.fields.now) c.loop-test.true
      c.in_ok-entry.ensures c.loop.invariant.read);
  allowed = subst IsBody c.body-in-loop.view_is c.body-in-loop.invariant;
}

pub returns : goal.returns
returns c =
    many-passes is_body entry_at c.loop.body c.args.count c.loop.counter c.loop.fields c.args.fields.now c.loop-test.false (is_body-holds c.loop.body c.loop.invariant.allowed) c.loop.invariant.read
