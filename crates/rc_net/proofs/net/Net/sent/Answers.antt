use Rattle.std.proofs.Common.{◌≡◌, ◌-◌, ◌≤◌, List, ℕ, Some, get_or, sym, ap, subst, ◌∙◌}
use Rattle.rc_ids.specs.declared.sends.Letter.{Letter}
use Rattle.rc_net.specs.declared.parcel.Parcel.{Parcel}
use Rattle.rc_net.specs.Network.{Network, message}
use Rattle.rc_net.specs.Parcels.{IsSeat, count_in, sent_in}
use Rattle.rc_net.proofs.KeptFacts.{none_is, message-later, message_same, there_bounds, within_sent}
use Rattle.rc_net.proofs.ParcelFacts.{message_read}
use Rattle.rc_net.proofs.net.Net.sent.Goals as goal

pub returns-then-not-is_sent : goal.returns-then-not-is_sent
returns-then-not-is_sent c = sym (none_is (message c.args.self.now.sent c.args.n) (sym c.is_sent.ensures ∙ c.if-not-is_sent.true))

pub seat-list-requires-clause-high : goal.seat-list-requires-clause-high
seat-list-requires-clause-high c =
    let f = c.self.inside in
    let high =
    within_sent f.parcels.items f.sent f.settled f.left c.args.n c.args.self.now.sent c.self.invariant (ap (λ (w : Network). w.sent) c.self.view_is)
    (sym c.is_sent.ensures ∙ c.if-not-is_sent.false) in
    subst (λ (ps : List Parcel). c.args.n ≤ count_in ps) (sym c.deref.ensures.value) (subst (λ (k : ℕ). c.args.n ≤ k) c.self.invariant.count high)

pub returns : goal.returns
returns c =
    let ps : List Parcel = c.self.inside.parcels.items in
    let n : ℕ = c.args.n in
    let r : Parcel = c.index-parcel.result.now in
    let l : Letter = c.index-as_slice-place.result in
    let j : ℕ = c.seat-list.result.0 in
    let i : ℕ = c.seat-list.result.1 in
    let low = (there_bounds c.args.self.now.sent n (sym c.is_sent.ensures ∙ c.if-not-is_sent.false)).0 in
    let seat = subst (λ (xs : List Parcel). IsSeat xs (n - 1) j i) c.deref.ensures.value c.seat-list.ensures in
    let at : l ≡ get_or (get_or ps j r).letters i l =
    c.index-as_slice-place.is ∙ ap (λ (ls : List Letter). get_or ls i l) (c.as_slice.ensures ∙ ap (λ (p : Parcel). p.letters) c.index-parcel.ensures) in
    ap Some (message_same c.same_party.result (get_or ps j r).from c.same_party-2.result l.to c.as_bytes.result.now l.bytes
    (c.same_party.ensures ∙ ap (λ (p : Parcel). p.from) c.index-parcel.ensures) c.same_party-2.ensures c.as_bytes.ensures)
    ∙ sym (message_read ps (n - 1) j i r seat c.index-parcel.ensures l at)
    ∙ sym (message-later (sent_in ps) n low)
    ∙ ap (λ (w : Network). message w.sent n) c.self.view_is
