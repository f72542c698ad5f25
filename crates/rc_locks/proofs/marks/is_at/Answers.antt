use Rattle.std.proofs.Common.{◌≡◌, nat_lt, length, false, sym, ap, ◌∙◌, arith}
use Rattle.std.specs.Ordering.{is_eq}
use Rattle.rc_protocol.specs.Shard.{Mark, mark_cmp}
use Rattle.rc_locks.proofs.PlaceFacts.{passes_in, passes_past}
use Rattle.rc_locks.proofs.marks.is_at.Goals as goal

pub returns-then-place-marks : goal.returns-then-place-marks
returns-then-place-marks c =
    c.is_eq.ensures ∙ ap is_eq c.cmp.ensures
    ∙ sym (passes_in (λ (m : Mark). is_eq (mark_cmp c.args.mark.now m)) c.args.marks.now c.args.place c.index-marks-place.result c.if-place-marks.true c.index-marks-place.is)

pub returns-else-place-marks : goal.returns-else-place-marks
returns-else-place-marks c =
    let past : nat_lt c.args.place (length c.args.marks.now) ≡ false = let le = c.if-place-marks.false in grind arith in
    past ∙ sym (passes_past (λ (m : Mark). is_eq (mark_cmp c.args.mark.now m)) c.args.marks.now c.args.place c.if-place-marks.false)
