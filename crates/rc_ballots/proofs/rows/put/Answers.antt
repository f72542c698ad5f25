use Rattle.std.proofs.Common.{◌≡◌, ℕ, List, Result, Ok, Err, OnErr, None, false, is_some, slice_get, sym, ap, ◌∙◌}
use Rattle.std.specs.Ordering.{nat_cmp}
use Rattle.rc_ids.specs.Tables.{found}
use Rattle.rc_ballots.specs.Tallies.{rank, held}
use Rattle.rc_ballots.proofs.BallotFacts.{Row, found_none}
use Rattle.rc_ballots.proofs.rows.put.Goals as goal

on_err : {T E : Type 0} (r : Result T E) (P : Type 0) → P → OnErr r P
on_err (Ok x) P p = tt
on_err (Err e) P p = p

pub returns-in_err-reserve-clause-absent : goal.returns-in_err-reserve-clause-absent
returns-in_err-reserve-clause-absent c =
    let rows : List Row = c.args.rows.now.items in
    let b : ℕ = c.args.ballot in
    let i : ℕ = c.count_below-place.result in
    let place : i ≡ rank b rows = c.count_below-place.ensures.count ∙ ap (rank b) c.deref.ensures.value in
    let none : is_some (held b (slice_get rows i)) ≡ false =
    sym (ap (λ (xs : List Row). is_some (held b (slice_get xs i))) c.deref-2.ensures.value) ∙ sym c.has_at.ensures ∙ c.if-has_at.false in
    on_err c.from_residual.result (found nat_cmp rows b ≡ None) (found_none b rows i c.requires place none)
