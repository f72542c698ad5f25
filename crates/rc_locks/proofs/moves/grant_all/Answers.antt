use Rattle.std.proofs.Common.{◌+◌, List, drop, refl, sym, ap, subst, ◌∙◌}
use Rattle.rc_protocol.specs.Shard.{Mark, added_all}
use Rattle.rc_locks.specs.Flags.{plain_marks, IsTurned, turned_where, with_plain, same_mark}
use Rattle.rc_locks.proofs.Rest.{item_at}
use Rattle.rc_locks.proofs.FlagFacts.{txs_stay, places_stay}
use Rattle.rc_locks.proofs.MoveFacts.{granted_plain, lost_stays, lost_turned, placed_at}
use Rattle.rc_locks.proofs.moves.grant_all.Goals as goal

pub loop-mark-preserved : goal.loop-mark-preserved
loop-mark-preserved c =
    let x : Mark = c.mark-item.result in
    let xs : List Mark = c.args.granted.now in
    let rest : List Mark = drop (c.loop-mark.mark-index + 1) xs in
    let at = item_at xs c.loop-mark.mark-index x c.loop-mark-test.true c.mark-item.is in
    let turned : IsTurned (λ (m : Mark). turned_where (same_mark x m) with_plain) c.loop-mark.locks.entries c.grant.new.locks.entries =
    subst (λ (k : Mark). IsTurned (λ (m : Mark). turned_where (same_mark k m) with_plain) c.loop-mark.locks.entries c.grant.new.locks.entries) c.spot_of.ensures c.grant.ensures.turned in
    let there = c.loop-mark.invariant.4 x ∙ placed_at xs c.loop-mark.mark-index x c.args.locks.now.entries at c.requires.placed in (
      ap (λ (ms : List Mark). added_all ms rest)
          (granted_plain c.loop-mark.locks.entries c.grant.new.locks.entries c.loop-mark.invariant.2 c.grant.ensures.rises x there turned)
          ∙ sym (ap (added_all (plain_marks c.loop-mark.locks.entries)) at) ∙ c.loop-mark.invariant.0,
      lost_stays c.loop-mark.locks.entries c.grant.new.locks.entries c.loop-mark.invariant.2 c.grant.ensures.rises _
          (lost_turned (same_mark x) with_plain (λ l. refl)) turned
          ∙ c.loop-mark.invariant.1,
      c.grant.ensures.rises,
      txs_stay _ c.loop-mark.locks.entries c.grant.new.locks.entries turned c.loop-mark.invariant.3,
      λ m. places_stay _ c.loop-mark.locks.entries c.grant.new.locks.entries turned m ∙ c.loop-mark.invariant.4 m,
    )
