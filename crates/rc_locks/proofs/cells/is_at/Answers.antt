use Rattle.std.proofs.Common.{ℕ, ◌≡◌, nat_lt, length, false, sym, ap, ◌∙◌, arith}
use Rattle.std.specs.Ordering.{is_eq, nat_cmp}
use Rattle.rc_locks.proofs.PlaceFacts.{passes_in, passes_past}
use Rattle.rc_locks.proofs.cells.is_at.Goals as goal

pub returns-then-place-list : goal.returns-then-place-list
returns-then-place-list c =
    c.is_eq.ensures ∙ ap is_eq c.cmp.ensures
    ∙ sym (passes_in (λ (t : ℕ). is_eq (nat_cmp c.args.tx t)) c.args.list.now c.args.place c.index-list-place.result c.if-place-list.true c.index-list-place.is)

pub returns-else-place-list : goal.returns-else-place-list
returns-else-place-list c =
    let past : nat_lt c.args.place (length c.args.list.now) ≡ false = let le = c.if-place-list.false in grind arith in
    past ∙ sym (passes_past (λ (t : ℕ). is_eq (nat_cmp c.args.tx t)) c.args.list.now c.args.place c.if-place-list.false)
