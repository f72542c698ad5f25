use Rattle.rc_fields.specs.Formats.{many_at}
use Rattle.rc_fields.specs.Names.{key_at}
use Rattle.rc_fields.proofs.ManyLoop.{many-goes_on, many-stops, many-is_done}
use Rattle.rc_record.proofs.unread.read_keys.Goals as goal

pub returns-in_default-clause-err : goal.returns-in_default-clause-err
returns-in_default-clause-err c =
    many-stops key_at c.loop.read.items c.args.count c.loop.counter c.loop.fields (many_at key_at c.args.count c.args.fields.now) c.loop-test.true
    c.in_default.ensures.gives c.loop.invariant

pub loop-preserved : goal.loop-preserved
loop-preserved c =
    rw c.in_ok-push.ensures.items
    (many-goes_on key_at c.loop.read.items c.args.count c.loop.counter c.loop.fields c.in-Some.key c.key.new.fields
    (many_at key_at c.args.count c.args.fields.now) c.loop-test.true c.in-Some.ensures.gives c.loop.invariant)

pub returns-clause-ok : goal.returns-clause-ok
returns-clause-ok c =
    many-is_done key_at c.loop.read.items c.args.count c.loop.counter c.loop.fields (many_at key_at c.args.count c.args.fields.now) c.loop-test.false
    c.loop.invariant
