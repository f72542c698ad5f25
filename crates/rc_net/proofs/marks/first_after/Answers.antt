use Rattle.std.proofs.Common.{◌+◌, ◌≤◌, ℕ, subst, sym, ◌∙◌}
use Rattle.rc_net.specs.Parcels.{IsQuiet, marks_in}
use Rattle.rc_net.proofs.KeptFacts.{length-marks, next_there, next_none, lt_then, le_then}
use Rattle.rc_net.proofs.marks.first_after.Goals as goal

pub returns-then-sent-n : goal.returns-then-sent-n
returns-then-sent-n c =
    sym (next_none (marks_in c.args.parcels.now) c.args.sent c.args.n (c.requires.count ∙ sym (length-marks c.args.parcels.now)) c.if-sent-n.true)

pub returns-then-sent-place : goal.returns-then-sent-place
returns-then-sent-place c =
    let marks = marks_in c.args.parcels.now in
    let k = c.next_pending-place.result in
    sym (le_then k c.args.sent (k + 1) c.if-sent-place.true)
    ∙ sym (next_there marks c.args.sent c.args.settled c.args.n k (c.requires.count ∙ sym (length-marks c.args.parcels.now)) c.requires.quiet
    (subst (λ (a : ℕ). IsQuiet a k marks) c.max.ensures c.next_pending-place.ensures.quiet) c.next_pending-place.ensures.pending
    (subst (λ (a : ℕ). a ≤ k) c.max.ensures c.next_pending-place.ensures.low))

pub returns : goal.returns
returns c =
    let marks = marks_in c.args.parcels.now in
    let k = c.next_pending-place.result in
    sym (lt_then k c.args.sent (k + 1) c.if-sent-place.false)
    ∙ sym (next_there marks c.args.sent c.args.settled c.args.n k (c.requires.count ∙ sym (length-marks c.args.parcels.now)) c.requires.quiet
    (subst (λ (a : ℕ). IsQuiet a k marks) c.max.ensures c.next_pending-place.ensures.quiet) c.next_pending-place.ensures.pending
    (subst (λ (a : ℕ). a ≤ k) c.max.ensures c.next_pending-place.ensures.low))
