use Rattle.std.proofs.Common.{length, ap, ◌∙◌}
use Rattle.rc_net.specs.Network.{Network, fits, letters_bytes}
use Rattle.rc_net.specs.Parcels.{sent_in}
use Rattle.rc_net.proofs.KeptFacts.{sent_count, fits_not, fits_is}
use Rattle.rc_net.proofs.net.Net.left_after.Goals as goal

pub returns-then-most-letters-clause-some : goal.returns-then-most-letters-clause-some
returns-then-most-letters-clause-some c =
    let f = c.self.inside in
    let count = length c.args.letters.now in
    let bytes = letters_bytes c.args.letters.now in
    fits_not (sent_in f.parcels.items) f.sent count bytes (sent_count f.parcels.items f.sent f.settled f.left c.self.invariant) c.if-most-letters.true
    ∙ ap (λ (w : Network). fits w.sent count bytes) c.self.view_is

pub returns-clause-some : goal.returns-clause-some
returns-clause-some c =
    let f = c.self.inside in
    let count = length c.args.letters.now in
    let bytes = letters_bytes c.args.letters.now in
    fits_is (sent_in f.parcels.items) f.sent f.left count bytes c.left_after.result (sent_count f.parcels.items f.sent f.settled f.left c.self.invariant)
    c.self.invariant.few c.if-most-letters.false c.self.invariant.light c.left_after.ensures
    ∙ ap (λ (w : Network). fits w.sent count bytes) c.self.view_is
