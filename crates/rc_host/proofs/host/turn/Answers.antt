use Rattle.rc_host.proofs.Turning.{went_on, failed_stop, full_stop, stopped_ok, stopped_err}
use Rattle.rc_host.specs.Causes.{cause_of}
use Rattle.rc_host.proofs.Remembering.{is_failed, done_stays, refused_stays, full_stays, fault_leaves}
use Rattle.std.proofs.Common.{ap}
use Rattle.rc_host.proofs.host.turn.Goals as goal

pub returns-in-Ok-clause-ok : goal.returns-in-Ok-clause-ok
returns-in-Ok-clause-ok g c = λ run x d is has told.
    let logged = c.logged_acts.ensures run.node run.cluster x (cause_of c.args.cause.now) has in
    went_on _ (g.N.Node.back run.node run.cluster) run c.args.node x d (cause_of c.args.cause.now) is c.act.new.self c.args.out.now c.act.new.out c.in-Ok.ensures.ok logged told

pub returns-in-Err-Failed-clause-ok : goal.returns-in-Err-Failed-clause-ok
returns-in-Err-Failed-clause-ok g c = λ run x d is has told.
    let logged = c.logged_acts.ensures run.node run.cluster x (cause_of c.args.cause.now) has in
    let gives = g.N.Node.back run.node run.cluster in
    let cause = cause_of c.args.cause.now in
    let z = failed_stop _ gives run c.args.node x d cause is c.act.new.self c.into_journal.result c.in-Err-Failed.field-0 _ c.args.out.now c.act.new.out c.into_journal.ensures c.in-Err-Failed.field-0-is c.in-Err-Failed.ensures.err logged (c.open_at_once.ensures.grew run.ended told) in
    stopped_ok _ gives run c.args.node x d cause is _ c.open_at_once.result.0 c.open_at_once.result.1 c.args.out.now c.act.new.out z c.in-Err-Failed.ensures.err.sends (c.open_at_once.ensures.ok run _ z.device z.stops told)

pub returns-in-Err-Failed-clause-err : goal.returns-in-Err-Failed-clause-err
returns-in-Err-Failed-clause-err g c = λ run x d is has told.
    let logged = c.logged_acts.ensures run.node run.cluster x (cause_of c.args.cause.now) has in
    let gives = g.N.Node.back run.node run.cluster in
    let cause = cause_of c.args.cause.now in
    let z = failed_stop _ gives run c.args.node x d cause is c.act.new.self c.into_journal.result c.in-Err-Failed.field-0 _ c.args.out.now c.act.new.out c.into_journal.ensures c.in-Err-Failed.field-0-is c.in-Err-Failed.ensures.err logged (c.open_at_once.ensures.grew run.ended told) in
    stopped_err _ gives run c.args.node x d cause is _ c.open_at_once.result.0 c.open_at_once.result.1 c.args.out.now c.act.new.out z c.in-Err-Failed.ensures.err.sends (c.open_at_once.ensures.err run _ z.device z.stops told)

pub returns-in-Err-Full-clause-ok : goal.returns-in-Err-Full-clause-ok
returns-in-Err-Full-clause-ok g c = λ run x d is has told.
    let logged = c.logged_acts.ensures run.node run.cluster x (cause_of c.args.cause.now) has in
    let gives = g.N.Node.back run.node run.cluster in
    let cause = cause_of c.args.cause.now in
    let z = full_stop _ gives run c.args.node x d cause is c.act.new.self c.into_journal-in-Err-Full.result c.in-Err-Full.field-0 _ c.args.out.now c.act.new.out c.into_journal-in-Err-Full.ensures c.in-Err-Full.field-0-is c.in-Err-Full.ensures.err logged c.open_at_once-in-Err-Full.ensures.whole in
    stopped_ok _ gives run c.args.node x d cause is _ c.open_at_once-in-Err-Full.result.0 c.open_at_once-in-Err-Full.result.1 c.args.out.now c.act.new.out z c.in-Err-Full.ensures.err.sends (c.open_at_once-in-Err-Full.ensures.ok run _ z.device z.stops told)

pub returns-in-Err-Full-clause-err : goal.returns-in-Err-Full-clause-err
returns-in-Err-Full-clause-err g c = λ run x d is has told.
    let logged = c.logged_acts.ensures run.node run.cluster x (cause_of c.args.cause.now) has in
    let gives = g.N.Node.back run.node run.cluster in
    let cause = cause_of c.args.cause.now in
    let z = full_stop _ gives run c.args.node x d cause is c.act.new.self c.into_journal-in-Err-Full.result c.in-Err-Full.field-0 _ c.args.out.now c.act.new.out c.into_journal-in-Err-Full.ensures c.in-Err-Full.field-0-is c.in-Err-Full.ensures.err logged c.open_at_once-in-Err-Full.ensures.whole in
    stopped_err _ gives run c.args.node x d cause is _ c.open_at_once-in-Err-Full.result.0 c.open_at_once-in-Err-Full.result.1 c.args.out.now c.act.new.out z c.in-Err-Full.ensures.err.sends (c.open_at_once-in-Err-Full.ensures.err run _ z.device z.stops told)

pub returns-in-Ok-clause-grew : goal.returns-in-Ok-clause-grew
returns-in-Ok-clause-grew g c = λ ended told. done_stays _ _ ended _ c.in-Ok.ensures.ok.logs told

pub returns-in-Err-NoMemory-clause-grew : goal.returns-in-Err-NoMemory-clause-grew
returns-in-Err-NoMemory-clause-grew g c = λ ended told.
    refused_stays _ _ c.in-Err-NoMemory.field-0 _ _ _ _ _ ended c.in-Err-NoMemory.ensures.err (ap is_failed c.in-Err-NoMemory.field-0-is) told

pub returns-in-Err-BallotsSpent-clause-grew : goal.returns-in-Err-BallotsSpent-clause-grew
returns-in-Err-BallotsSpent-clause-grew g c = λ ended told.
    refused_stays _ _ c.in-Err-BallotsSpent.field-0 _ _ _ _ _ ended c.in-Err-BallotsSpent.ensures.err (ap is_failed c.in-Err-BallotsSpent.field-0-is) told

pub returns-in-Err-Failed-clause-grew : goal.returns-in-Err-Failed-clause-grew
returns-in-Err-Failed-clause-grew g c = λ ended told.
    fault_leaves _ _ c.in-Err-Failed.field-0 _ _ _ _ _ ended c.in-Err-Failed.ensures.err c.into_journal.result c.into_journal.ensures c.in-Err-Failed.field-0-is
    (c.open_at_once.ensures.grew ended told)

pub returns-in-Err-Full-clause-grew : goal.returns-in-Err-Full-clause-grew
returns-in-Err-Full-clause-grew g c = λ ended told.
    full_stays _ _ c.in-Err-Full.field-0 _ _ _ _ _ ended c.in-Err-Full.ensures.err c.into_journal-in-Err-Full.result c.into_journal-in-Err-Full.ensures (ap is_failed c.in-Err-Full.field-0-is)
    (c.open_at_once-in-Err-Full.ensures.grew ended told)
