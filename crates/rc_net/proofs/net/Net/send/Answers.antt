use Rattle.std.proofs.Common.{length, ap, ◌∙◌}
use Rattle.rc_net.specs.Network.{Network}
use Rattle.rc_net.proofs.KeptFacts.{sent_count}
use Rattle.rc_net.proofs.net.Net.send.Goals as goal

pub returns-clause-number : goal.returns-clause-number
returns-clause-number c =
    let f = c.self-2.inside in
    sent_count f.parcels.items f.sent f.settled f.left c.self-2.invariant ∙ ap (λ (w : Network). length w.sent) c.self-2.view_is
