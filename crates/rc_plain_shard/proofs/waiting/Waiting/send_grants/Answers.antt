use Rattle.std.proofs.Common.{◌≡◌, ◌+◌, List, [], ◌∷◌, ◌++◌, map, filter, drop, sym, ap, ◌∙◌}
use Rattle.rc_record.specs.ShardState.{ShardDurable}
use Rattle.rc_protocol.specs.Messages.{Posts}
use Rattle.rc_protocol.specs.Shard.{Mark, grant_of, is_free}
use Rattle.rc_plain_shard.proofs.Rest.{item_at, sent_kept, sent_left}
use Rattle.rc_plain_shard.proofs.waiting.Waiting.send_grants.Goals as goal
use Rattle.rc_plain_shard.proofs.waiting.Waiting.send_grants.Goals.{then-is_free+in_ok-send_grant, else-is_free}

pub loop-mark-preserved : goal.loop-mark-preserved
loop-mark-preserved c =
    let p = is_free c.args.durable.now.parts in
    let g = grant_of c.args.dc c.args.durable.now.rows in
    let x : Mark = c.mark-item.result in
    let xs : List Mark = c.deref-mark-items.result.now in
    let rest : List Mark = drop (c.loop-mark.mark-index + 1) xs in
    let at = item_at xs c.loop-mark.mark-index x c.loop-mark-test.true c.mark-item.is in
    let free : p x ≡ c.is_free.result = sym (ap (λ (s : ShardDurable). is_free s.parts x) c.durable.view_is) ∙ sym c.is_free.ensures in
    let before = sym (ap (λ (ms : List Mark). c.loop-mark.out ++ map g (filter p ms)) at) ∙ c.loop-mark.invariant in
    elim c.if-is_free.branch [
      | then-is_free+in_ok-send_grant w ↦
          ap (λ (out : Posts). out ++ map g (filter p rest))
          (w.out-is ∙ w.in_ok-send_grant.ensures ∙ ap (λ (s : ShardDurable). c.loop-mark.out ++ grant_of c.args.dc s.rows x ∷ []) c.durable.view_is)
          ∙ sym (sent_kept g p c.loop-mark.out rest x (free ∙ w.if-is_free.true)) ∙ before
      | else-is_free w ↦
          ap (λ (out : Posts). out ++ map g (filter p rest)) w.out-is
          ∙ sym (sent_left g p c.loop-mark.out rest x (free ∙ w.if-is_free.false)) ∙ before
    ]
