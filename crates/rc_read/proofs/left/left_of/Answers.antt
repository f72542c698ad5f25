use Rattle.std.proofs.Common.{◌≡◌, ℕ, ◌&&◌, not, arith, ap, ◌∙◌, filter}
use Rattle.std.specs.Prelude.{nat_le}
use Rattle.std.specs.Ordering.{nat_cmp}
use Rattle.rc_ids.specs.Tables.{member, up_to}
use Rattle.rc_read.proofs.LeftFacts.{left_more}
use Rattle.rc_read.proofs.left.left_of.Goals as goal

pub loop-place-preserved : goal.loop-place-preserved
loop-place-preserved c =
    left_more (λ d. nat_le d c.args.dcs && not (member nat_cmp c.args.offered.now d)) c.loop-place.place c.loop-place.left c.with_if-left.result c.is_left.result
    c.with_if-left.ensures c.is_left.ensures c.loop-place.invariant

pub returns : goal.returns
returns c =
    let end : c.loop-place.place ≡ 7 = omega arith in
    c.loop-place.invariant
    ∙ ap (λ (n : ℕ). filter (λ d. nat_le d c.args.dcs && not (member nat_cmp c.args.offered.now d)) (up_to n)) end
