use Rattle.std.proofs.Common.{sym, ap, ◌∙◌}
use Rattle.std.proofs.lemmas.Result.{on_ok_weaker}
use Rattle.rc_msg.specs.Outboxes.{Outbox}
use Rattle.rc_msg.specs.Posts.{posted_all}
use Rattle.rc_msg.proofs.PostFacts.{posted_all-append}
use Rattle.rc_protocol.specs.Coordinator.{finish_all_posts}
use Rattle.rc_coord.specs.Rows.{asks_at}
use Rattle.rc_coord.proofs.pages.post_learned_and_ask.Goals as goal

pub returns-clause-ok : goal.returns-clause-ok
returns-clause-ok c =
    on_ok_weaker c.post_ask.result
    (λ sent. sent ∙ ap (λ (o : Outbox). posted_all o (asks_at c.args.from c.args.ask)) c.in_ok-post_learned.ensures.ok
    ∙ sym (posted_all-append c.args.out.now (finish_all_posts c.args.cluster.now c.args.dc c.args.page.now) (asks_at c.args.from c.args.ask)))
    c.post_ask.ensures.ok
