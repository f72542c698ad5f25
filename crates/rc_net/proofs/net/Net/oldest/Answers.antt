use Rattle.std.proofs.Common.{◌+◌, slice_get, length, subst, ap, sym, ◌∙◌}
use Rattle.rc_ids.specs.Sets.{IsRisingWithin}
use Rattle.rc_net.specs.Network.{Network}
use Rattle.rc_net.proofs.KeptFacts.{pending_rises, least, lt_then, le_then}
use Rattle.rc_net.proofs.net.Net.oldest.Goals as goal

pub returns-then-self-clause-oldest : goal.returns-then-self-clause-oldest
returns-then-self-clause-oldest c =
    let f = c.self.inside in
    sym (le_then f.settled f.sent (f.settled + 1) c.if-self.true)
    ∙ sym (least f.parcels.items f.sent f.settled f.left c.self.invariant)
    ∙ ap (λ (w : Network). slice_get w.pending 0) c.self.view_is

pub returns-clause-oldest : goal.returns-clause-oldest
returns-clause-oldest c =
    let f = c.self.inside in
    sym (lt_then f.settled f.sent (f.settled + 1) c.if-self.false)
    ∙ sym (least f.parcels.items f.sent f.settled f.left c.self.invariant)
    ∙ ap (λ (w : Network). slice_get w.pending 0) c.self.view_is

pub returns-then-self-clause-rising : goal.returns-then-self-clause-rising
returns-then-self-clause-rising c =
    let f = c.self.inside in
    let P : Network → Type 0 = λ w. IsRisingWithin 1 (length w.sent) w.pending in
    subst P c.self.view_is (pending_rises f.parcels.items f.sent f.settled f.left c.self.invariant)

pub returns-clause-rising : goal.returns-clause-rising
returns-clause-rising c =
    let f = c.self.inside in
    let P : Network → Type 0 = λ w. IsRisingWithin 1 (length w.sent) w.pending in
    subst P c.self.view_is (pending_rises f.parcels.items f.sent f.settled f.left c.self.invariant)
