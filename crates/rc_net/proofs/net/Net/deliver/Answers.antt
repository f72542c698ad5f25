use Rattle.std.proofs.Common.{◌-◌, ◌≤◌, ℕ, List, false, slice_set, sym, ap, subst, ◌∙◌, arith}
use Rattle.std.specs.Ordering.{nat_cmp}
use Rattle.std.proofs.lemmas.List.{with_items_is}
use Rattle.rc_ids.specs.Tables.{removed}
use Rattle.rc_ids.specs.Sets.{marked}
use Rattle.rc_net.specs.declared.parcel.Parcel.{Parcel}
use Rattle.rc_net.specs.Network.{Network}
use Rattle.rc_net.specs.Parcels.{IsKept, marks_in}
use Rattle.rc_net.proofs.KeptFacts.{delivery_none, delivery_some, settled_pending, there_bounds, within_sent}
use Rattle.rc_net.proofs.net.Net.deliver.Goals as goal

pub returns-then-not-is_sent-clause-fault : goal.returns-then-not-is_sent-clause-fault
returns-then-not-is_sent-clause-fault c = delivery_none c.args.self.now.sent c.args.n (sym c.is_sent.ensures ∙ c.if-not-is_sent.true)

pub settle_one-self-inside-requires-clause-high : goal.settle_one-self-inside-requires-clause-high
settle_one-self-inside-requires-clause-high c =
    let f = c.self.inside in
    within_sent f.parcels.items f.sent f.settled f.left c.args.n c.args.self.now.sent c.self.invariant (ap (λ (w : Network). w.sent) c.self.view_is)
    (sym c.is_sent.ensures ∙ c.if-not-is_sent.false)

pub invariant_of-self : goal.invariant_of-self
invariant_of-self c =
    let f = c.self.inside in
    let same = with_items_is f.parcels c.settle_one-self-inside.new.parcels (omega arith) in
    let kept = subst (λ (ps : List Parcel). IsKept ps f.sent f.settled f.left) (sym c.deref_mut.ensures.value) c.self.invariant in
    subst (λ (ps : List Parcel). IsKept ps f.sent c.settle_one-self-inside.result f.left) (sym same) (c.settle_one-self-inside.ensures.kept f.left kept)

pub invariant_of-self-2 : goal.invariant_of-self-2
invariant_of-self-2 c =
    let f = c.self.inside in
    let same = with_items_is f.parcels c.settle_one-self-inside.new.parcels (omega arith) in
    let kept = subst (λ (ps : List Parcel). IsKept ps f.sent f.settled f.left) (sym c.deref_mut.ensures.value) c.self.invariant in
    subst (λ (ps : List Parcel). IsKept ps f.sent c.settle_one-self-inside.result f.left) (sym same) (c.settle_one-self-inside.ensures.kept f.left kept)

pub returns-clause-fault : goal.returns-clause-fault
returns-clause-fault c = delivery_some c.args.self.now.sent c.args.n (sym c.is_sent.ensures ∙ c.if-not-is_sent.false)

pub returns-clause-pending : goal.returns-clause-pending
returns-clause-pending c =
    let f = c.self.inside in
    let n = c.args.n in
    let there = sym c.is_sent.ensures ∙ c.if-not-is_sent.false in
    let low = (there_bounds c.args.self.now.sent n there).0 in
    let high = within_sent f.parcels.items f.sent f.settled f.left n c.args.self.now.sent c.self.invariant (ap (λ (w : Network). w.sent) c.self.view_is) there in
    let same = with_items_is f.parcels c.settle_one-self-inside.new.parcels (omega arith) in
    let marks = c.settle_one-self-inside.ensures.marks ∙ ap (λ (ps : List Parcel). slice_set (marks_in ps) (n - 1) false) c.deref_mut.ensures.value in
    ap (λ (ps : List Parcel). marked 1 (marks_in ps)) same
    ∙ settled_pending f.parcels.items (marks_in c.settle_one-self-inside.new.parcels) n low (subst (λ (k : ℕ). n ≤ k) c.self.invariant.count high) marks
    ∙ ap (λ (w : Network). removed nat_cmp w.pending n) c.self.view_is
