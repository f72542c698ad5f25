use Rattle.std.proofs.Common.{◌-◌, ◌≤◌, ℕ, List, length, slice_get, sym, ap, subst, ◌∙◌}
use Rattle.std.specs.Ordering.{nat_cmp}
use Rattle.rc_ids.specs.Sets.{IsRisingWithin}
use Rattle.rc_ids.specs.Tables.{member}
use Rattle.rc_net.specs.declared.parcel.Parcel.{Parcel}
use Rattle.rc_net.specs.Network.{Network}
use Rattle.rc_net.specs.Parcels.{count_in, marks_in}
use Rattle.rc_net.proofs.KeptFacts.{member_there, there_bounds, within_sent, pending_rises}
use Rattle.rc_net.proofs.net.Net.is_pending.Goals as goal

pub is_pending-requires-clause-high : goal.is_pending-requires-clause-high
is_pending-requires-clause-high c =
    let f = c.self.inside in
    let high = within_sent f.parcels.items f.sent f.settled f.left c.args.n c.args.self.now.sent c.self.invariant (ap (λ (w : Network). w.sent) c.self.view_is) c.requires in
    subst (λ (ps : List Parcel). c.args.n ≤ count_in ps) (sym c.deref.ensures.value) (subst (λ (k : ℕ). c.args.n ≤ k) c.self.invariant.count high)

pub returns-clause-pending : goal.returns-clause-pending
returns-clause-pending c =
    let f = c.self.inside in
    let at = sym (ap (λ (ps : List Parcel). slice_get (marks_in ps) (c.args.n - 1)) c.deref.ensures.value) ∙ c.is_pending.ensures in
    member_there f.parcels.items c.args.n c.is_pending.result (there_bounds c.args.self.now.sent c.args.n c.requires).0 at
    ∙ ap (λ (w : Network). member nat_cmp w.pending c.args.n) c.self.view_is

pub returns-clause-rising : goal.returns-clause-rising
returns-clause-rising c =
    let f = c.self.inside in
    let P : Network → Type 0 = λ w. IsRisingWithin 1 (length w.sent) w.pending in
    subst P c.self.view_is (pending_rises f.parcels.items f.sent f.settled f.left c.self.invariant)
