use Rattle.std.proofs.Common.{subst}
use Rattle.std.proofs.lemmas.Result.{err_from_is_err_and}
use Rattle.rc_fields.specs.Formats.{many_at}
use Rattle.rc_fields.proofs.ManyLoop.{many-goes_on, many-ends, many-may_not, many-passes}
use Rattle.rc_fields.specs.Formats.{both_at}
use Rattle.rc_fields.specs.Names.{tx_at}
use Rattle.rc_body.specs.Reading.{decision_at, is_page}
use Rattle.rc_body.specs.Pages.{IsPage}
use Rattle.rc_body.proofs.ReadingLaws.{is_page-holds}
use Rattle.rc_body.proofs.Growing.{is_page-more}
use Rattle.rc_body.proofs.unread.read_outcomes.Goals as goal

pub returns-in_err-tx : goal.returns-in_err-tx
returns-in_err-tx c =
    let p = err_from_is_err_and c.from_residual.result c.from_residual.ensures.1 in
    rw (p.1, p.2)
    (many-ends is_page (both_at tx_at decision_at) c.loop.page c.args.count c.loop.counter c.loop.fields c.args.fields.now c.in_err-tx.field-0.0 c.loop-test.true
    c.in_err-tx.ensures c.loop.invariant.read)

pub returns-in_err-grow_page : goal.returns-in_err-grow_page
returns-in_err-grow_page c =
    let p = err_from_is_err_and c.from_residual-in_err-grow_page.result c.from_residual-in_err-grow_page.ensures.1 in
    rw (p.1, p.2)
    (many-may_not is_page (both_at tx_at decision_at) c.loop.page c.args.count c.loop.counter c.loop.fields (c.in_ok-tx.tx, c.in_ok-tx.decision) c.read_outcome.new.fields c.args.fields.now c.in_err-grow_page.field-0.0
    is_page-more c.loop-test.true c.in_ok-tx.ensures c.in_err-grow_page.ensures.err c.loop.invariant.read)

pub loop-preserved : goal.loop-preserved
loop-preserved c = record {
  read =
      rw c.in_ok-grow_page.ensures.ok
      (many-goes_on (both_at tx_at decision_at) c.loop.page c.args.count c.loop.counter c.loop.fields (c.in_ok-tx.tx, c.in_ok-tx.decision) c.read_outcome.new.fields (many_at (both_at tx_at decision_at) c.args.count c.args.fields.now) c.loop-test.true
      c.in_ok-tx.ensures c.loop.invariant.read);
  allowed = subst IsPage c.page-in-loop.view_is c.page-in-loop.invariant;
}

pub returns : goal.returns
returns c =
    many-passes is_page (both_at tx_at decision_at) c.loop.page c.args.count c.loop.counter c.loop.fields c.args.fields.now c.loop-test.false (is_page-holds c.loop.page c.loop.invariant.allowed) c.loop.invariant.read
