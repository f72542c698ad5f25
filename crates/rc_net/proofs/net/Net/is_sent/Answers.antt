use Rattle.std.proofs.Common.{length, nat_le, sym, ap, ◌∙◌}
use Rattle.rc_net.specs.Network.{Network}
use Rattle.rc_net.proofs.KeptFacts.{sent_count, sent_there}
use Rattle.rc_net.proofs.net.Net.is_sent.Goals as goal

pub returns-then-n-ge1 : goal.returns-then-n-ge1
returns-then-n-ge1 c =
    let f = c.self.inside in
    ap (nat_le c.args.n) (sent_count f.parcels.items f.sent f.settled f.left c.self.invariant ∙ ap (λ (w : Network). length w.sent) c.self.view_is)
    ∙ sym (sent_there c.args.self.now.sent c.args.n c.if-n-ge1.true)
