use Rattle.std.proofs.Common.{◌≡◌, ◌+◌, ◌-◌, ℕ, Bool, Some, false, slice_get, subst, sym, ap, ◌∙◌, arith, add-one}
use Rattle.rc_net.specs.declared.parcel.Parcel.{Parcel}
use Rattle.rc_net.specs.Parcels.{IsQuiet, marks_in, marks_of}
use Rattle.rc_net.proofs.MarkFacts.{quiet_more, front_there, front_end}
use Rattle.rc_net.proofs.ParcelFacts.{length-made, sized_marks}
use Rattle.rc_net.proofs.marks.next_pending.Goals as goal

pub loop-place-preserved : goal.loop-place-preserved
loop-place-preserved c =
    let marks = marks_in c.args.parcels.now in
    let k = c.loop-place.place in
    let same : (k + 1) - 1 ≡ k = omega arith in
    let at : slice_get marks k ≡ Some false =
    sym (ap (slice_get marks) same) ∙ c.is_pending.ensures ∙ ap (λ (b : Bool). Some b) c.if-not-is_pending.true in
    let before = c.loop-place.invariant in
    let low = before.1 in (
      subst (λ (n : ℕ). IsQuiet c.args.from n marks) (sym (add-one k)) (quiet_more marks c.args.from k before.1 before.0 at),
      omega (arith, low),
      omega arith,
    )

pub returns-else-not-is_pending-clause-pending : goal.returns-else-not-is_pending-clause-pending
returns-else-not-is_pending-clause-pending c =
    let marks = marks_in c.args.parcels.now in
    let k = c.loop-place.place in
    let same : (k + 1) - 1 ≡ k = omega arith in
    front_there marks k (sym (ap (slice_get marks) same) ∙ c.is_pending.ensures ∙ ap (λ (b : Bool). Some b) c.if-not-is_pending.false)

pub returns-after-loop-place-clause-pending : goal.returns-after-loop-place-clause-pending
returns-after-loop-place-clause-pending c =
    let size = length-made (λ (p : Parcel). marks_of p.letters) sized_marks c.args.parcels.now in
    let all = c.requires.count in
    front_end (marks_in c.args.parcels.now) c.loop-place.place (omega (arith, size, all))
