use Rattle.std.proofs.Common.{sym, subst, ◌∙◌}
use Rattle.rc_client.specs.Acts.{Acts}
use Rattle.rc_client.specs.States.{client_of, site_of}
use Rattle.rc_client.proofs.RowFacts.{voted-at, decided-at}
use Rattle.rc_client.proofs.hearing.hear.Goals as goal

pub returns-in_ok-vote-in-Voted-clause-ok : goal.returns-in_ok-vote-in-Voted-clause-ok
returns-in_ok-vote-in-Voted-clause-ok c =
    subst
    (Acts (site_of c.args.progress.now c.args.out.now c.args.lines.now) (site_of c.vote.new.progress c.args.out.now c.vote.new.lines))
    (sym (voted-at c.args.cluster.now c.args.progress.now.tx (client_of c.args.progress.now) c.args.msg.now c.in-Voted.ballot c.in-Voted.dc c.in-Voted.decision
    c.in-Voted.is (sym c.is_ignored.ensures ∙ c.if-is_ignored.false)))
    (c.in_ok-vote-in-Voted.ensures.ok c.args.out.now)

pub returns-in_ok-learn-in-Decided-clause-ok : goal.returns-in_ok-learn-in-Decided-clause-ok
returns-in_ok-learn-in-Decided-clause-ok c =
    subst
    (Acts (site_of c.args.progress.now c.args.out.now c.args.lines.now) (site_of c.learn.new.progress c.args.out.now c.learn.new.lines))
    (sym (decided-at c.args.cluster.now c.args.progress.now.tx (client_of c.args.progress.now) c.args.msg.now c.in-Decided.decision
    c.in-Decided.is (sym c.is_ignored.ensures ∙ c.if-is_ignored.false)))
    (c.in_ok-learn-in-Decided.ensures.ok c.args.out.now)
