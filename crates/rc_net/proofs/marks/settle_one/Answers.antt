use Rattle.std.proofs.Common.{◌-◌}
use Rattle.rc_net.proofs.KeptFacts.{kept_settled}
use Rattle.rc_net.proofs.marks.settle_one.Goals as goal

pub returns-clause-kept : goal.returns-clause-kept
returns-clause-kept c = λ left.
    kept_settled c.args.parcels.now c.settle.new.parcels c.args.sent c.args.settled left (c.args.n - 1) c.next_pending.result c.settle.ensures.sent
    c.settle.ensures.marks c.settle.ensures.numbered c.settle.ensures.count c.next_pending.ensures.quiet c.next_pending.ensures.pending
    c.next_pending.ensures.low c.next_pending.ensures.high
