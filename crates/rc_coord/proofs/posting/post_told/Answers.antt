use Rattle.std.proofs.Common.{sym, ap, ◌∙◌}
use Rattle.rc_msg.specs.Outboxes.{Outbox, posted}
use Rattle.rc_protocol.specs.Messages.{to_all, one, client_of}
use Rattle.rc_msg.proofs.PostFacts.{posted_all-append}
use Rattle.rc_coord.proofs.posting.post_told.Goals as goal

pub returns-clause-ok : goal.returns-clause-ok
returns-clause-ok c =
    c.in_ok-push.ensures.ok ∙ ap (λ (o : Outbox). posted o (client_of c.args.tx) c.args.msg.now) c.in_ok-post_each.ensures.ok
    ∙ sym (posted_all-append c.args.out.now (to_all c.args.cluster.now c.args.msg.now) (one (client_of c.args.tx) c.args.msg.now))
