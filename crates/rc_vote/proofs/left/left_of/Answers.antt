use Rattle.std.proofs.Common.{◌≡◌, ℕ, ◌&&◌, not, arith, ap, ◌∙◌}
use Rattle.std.specs.Ordering.{nat_cmp}
use Rattle.std.specs.List.{filter}
use Rattle.rc_ids.specs.Tables.{member, up_to}
use Rattle.rc_vote.proofs.ShardFacts.{left_more, chosen_shards}
use Rattle.rc_vote.proofs.left.left_of.Goals as goal

pub loop-place-preserved : goal.loop-place-preserved
loop-place-preserved c =
    left_more (λ s. member nat_cmp c.args.touched.now s && not (member nat_cmp c.args.yes.now s)) c.loop-place.place c.loop-place.left c.with_if-left.result c.is_left.result
    c.with_if-left.ensures c.is_left.ensures c.loop-place.invariant

pub returns : goal.returns
returns c =
    let end : c.loop-place.place ≡ 8 = omega arith in
    c.loop-place.invariant
    ∙ ap (λ (n : ℕ). filter (λ s. member nat_cmp c.args.touched.now s && not (member nat_cmp c.args.yes.now s)) (up_to n)) end
    ∙ chosen_shards (λ s. not (member nat_cmp c.args.yes.now s)) c.args.touched.now c.len.ensures.members
