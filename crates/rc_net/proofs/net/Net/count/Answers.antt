use Rattle.std.proofs.Common.{length, ap, ◌∙◌}
use Rattle.rc_net.specs.Network.{Network}
use Rattle.rc_net.proofs.KeptFacts.{sent_count}
use Rattle.rc_net.proofs.net.Net.count.Goals as goal

pub returns : goal.returns
returns c =
    sent_count c.self.inside.parcels.items c.self.inside.sent c.self.inside.settled c.self.inside.left c.self.invariant
    ∙ ap (λ (w : Network). length w.sent) c.self.view_is
