use Rattle.std.proofs.Common.{◌≡◌, ◌+◌, true, false, [], nat_cmp, sym, ◌∙◌, append-nil}
use Rattle.std.specs.Prelude.{if◌then◌else◌}
use Rattle.rc_ids.specs.Tables.{member}
use Rattle.rc_protocol.specs.Messages.{one, shard_server}
use Rattle.rc_plain_client.proofs.SendFacts.{sent-more}
use Rattle.rc_plain_client.proofs.sends.send_to_others.Goals as goal
use Rattle.rc_plain_client.proofs.sends.send_to_others.Goals.{then-not-has+in_ok-push, else-not-has}

pub loop-place-preserved : goal.loop-place-preserved
loop-place-preserved c =
    sent-more c.args.out.now c.loop-place.out c.if-not-has.out c.loop-place.place
    (λ d. if member nat_cmp c.args.granted d then [] else one (shard_server d c.args.shard) c.args.msg.now)
    c.loop-place.invariant
    (elim c.if-not-has.branch [
      | then-not-has+in_ok-push w ↦
          let no : member nat_cmp c.args.granted (c.loop-place.place + 1) ≡ false = sym c.has.ensures ∙ w.if-not-has.true in
          rw no (w.out-is ∙ w.in_ok-push.ensures.ok)
      | else-not-has w ↦
          let yes : member nat_cmp c.args.granted (c.loop-place.place + 1) ≡ true = sym c.has.ensures ∙ w.if-not-has.false in
          rw yes (w.out-is ∙ sym (append-nil c.loop-place.out))
    ])
